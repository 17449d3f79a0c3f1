-- What is printed of an answer.
use Rattle.std.specs.Prelude.{ℕ, List, ◌++◌, codes, decimal}
use Rattle.notices.specs.declared.notice.Notice.{Notice}
use Rattle.notices.specs.declared.notice.Notice.TheVariants.{Declare, Cancel, Move, Withdraw}
use Rattle.sheet.specs.declared.call.Counts.{Counts}
use Rattle.sheet.specs.declared.call.Answer.{Answer}
use Rattle.sheet.specs.declared.call.Answer.TheVariants.{Entered, Retired, Amended}

-- two numbers after a word
abbrev pub numbers_after : List ℕ → ℕ → ℕ → List ℕ
numbers_after word m n = word ++ decimal m ++ codes " " ++ decimal n

-- how many rolls a notice counts, and how many changes
abbrev pub counts_after : List ℕ → Counts → List ℕ
counts_after word counts = numbers_after word counts.rolls counts.changes

-- what a notice did, with its counts
abbrev pub notice_text : Notice → Counts → List ℕ
notice_text (Declare day) counts = counts_after (codes "declared ") counts
notice_text (Cancel day) counts = counts_after (codes "cancelled ") counts
notice_text (Move from to) counts = counts_after (codes "moved ") counts
notice_text (Withdraw day) counts = counts_after (codes "withdrawn ") counts

-- a bond's number and how many rolls it has; the number of a bond that is live no more; a notice
abbrev pub answer_text : Answer → List ℕ
answer_text (Entered number rolls) = numbers_after (codes "entered ") number rolls
answer_text (Retired number) = codes "retired " ++ decimal number
answer_text (Amended notice counts) = notice_text notice counts
