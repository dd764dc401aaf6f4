mod PendingAct
pub mod Costs
pub mod Hearing
pub mod Items
pub mod LimitsStay
pub mod Refusals
pub mod Spending
pub mod Staying
pub mod Taking
