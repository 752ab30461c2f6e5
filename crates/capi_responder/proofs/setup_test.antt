-- Laws of the rules on a state's bytes.
mod InPlace
