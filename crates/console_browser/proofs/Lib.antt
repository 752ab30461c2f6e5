-- Laws that belong to no one function: what a line starts, and what is lent of the table.
mod After
