-- What is handed out of an input, and what is still to come.
use Rattle.std.specs.Prelude.{List, [], ◌∷◌, Some, None, Option}
use Rattle.notation.specs.declared.line.Line.{Line}
use Rattle.notation.specs.declared.line.Line.TheVariants.{Remark, Entry, TooLong}
use Rattle.notation.specs.declared.lines.Lines.{Lines}
use Rattle.notation.specs.InputLines.{Part, remark, entry, too_long, lines_of, numbered}

-- a line as it is handed out
abbrev pub seen : Line → Part
seen (Remark n text) = remark n text.now
seen (Entry n text) = entry n text.now
seen (TooLong n) = too_long n

-- the lines still to be handed out
abbrev pub to_come : Lines → List Part
to_come s = numbered s.number (lines_of s.rest.now)

-- the first, if there is one, and what then is to come
abbrev pub taken : List Part → Option Part × List Part
taken [] = (None, [])
taken (p ∷ ps) = (Some p, ps)
