-- Laws of held queries. For callers: Lists (the list in order of arrival).
pub mod Lists
