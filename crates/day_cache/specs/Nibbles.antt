-- Codes of four bits, sixteen to a word of 64, the earliest lowest.
use Rattle.std.specs.Prelude.{ℕ, ◌+◌, ◌*◌, ◌/◌, ◌%◌, ◌^◌, List, slice_index}

-- the code at place p of a word
abbrev pub nibble : ℕ → ℕ → ℕ
nibble word p = word / 2 ^ (4 * p) % 16

-- the word with another code at place p
abbrev pub with_nibble : ℕ → ℕ → ℕ → ℕ
with_nibble word p code = (word / 2 ^ (4 * p) / 2 ^ 4 * 2 ^ 4 + code) * 2 ^ (4 * p) + word % 2 ^ (4 * p)

-- the code at place k of a row of words
abbrev pub kept_code : List ℕ → ℕ → ℕ
kept_code words k = nibble (slice_index words (k / 16)) (k % 16)
