-- A question run on tables that hold only the columns that are used. To be read in this order.

-- the run as a whole: it comes to the answer, and reads just what was told
pub mod Projected
-- the run turn by turn, and what its turns count up to
pub mod Course
-- places, cells and tests: what code that runs has to work out
pub mod Cells
