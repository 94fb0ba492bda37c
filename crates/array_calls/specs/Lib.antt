-- The four calls on numbers and doubles in arrays of the stack, for jobs of at most 64 rows.
pub mod Replies
