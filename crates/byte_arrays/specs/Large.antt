-- Which jobs are too large for the exports on bytes (document 01, 'Oracle'). Definitions only.
-- A job is large when it has more than 64 rows, more than 512 entries, or more than 4,096 doubles of working memory, whole elements counted: the
-- local arrays hold no more. A large job gets 255, and nothing is changed. Every other job is the call on the lists that its slices stand for. So
-- row starts, columns, a given mass, vectors or an output that are too long for the job, by however much, get their numbered refusal (1, 2, 7, 16,
-- 15), or one that comes before it, with the number of whole elements handed in (2: of entries).
use Rattle.std.specs.Prelude.{Bool, ◌||◌, ℕ, ◌/◌, ltb}

-- by the rows, and the lengths in bytes of entries and working memory
unfoldable pub large : ℕ → ℕ → ℕ → Bool
large n vals work = ltb 64 n || (ltb 512 (vals / 8) || ltb 4096 (work / 8))
