-- Laws that belong to no one function. For callers: Restricted (which NSEC is read as the sixth type).
pub mod Strings
pub mod Parts
pub mod Fits
pub mod Forms
pub mod Restricted
pub mod Witness
