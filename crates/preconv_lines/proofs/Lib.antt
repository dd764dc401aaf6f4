pub mod WideText
