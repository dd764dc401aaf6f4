mod Turns
mod Unread
mod Written
