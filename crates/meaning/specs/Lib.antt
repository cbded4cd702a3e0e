-- What a question comes to: the definitions that all contracts rest on, and the theorems about them. To be read in this order.

-- options, lists and names
pub mod Base
-- values, expressions, three-valued logic, types
pub mod Values
-- tables, and what each step makes of one
pub mod Steps
-- what can be told beforehand: columns after each step, columns used, pages read
pub mod Plan
-- from bytes to a question
pub mod Text
-- tables on pages; which questions are sound; the answer
pub mod Pages
-- what holds of every sound question
pub mod Theorems
-- laws of the steps
pub mod Laws
-- what the call promises, outcome by outcome
pub mod Promise
-- worked questions, and what would be wrong
pub mod Worked
