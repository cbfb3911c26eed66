pub mod Listed
pub mod Rising
pub mod Accounting
pub mod Opened
pub mod Holding
pub mod Numbered
