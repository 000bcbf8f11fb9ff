-- What the contracts of the code's parts say.
use Rattle.std.specs.Prelude.{◌≡◌, true, List, ℕ, ◌≤◌, ◌<◌, length}
use Rattle.text.specs.Parts.{part}
use Rattle.text.specs.Runs.{is_empty}
use Rattle.std.specs.declared.option.Option as Options
use Rattle.sheet.specs.declared.buffer.Part.{Part}
use Rattle.sheet.specs.Order.{Order}
use Rattle.sheet.specs.Sheet.{sheet}
use Rattle.intake.specs.Required.{value_of}
use Rattle.intake.specs.Book.{Book, text, added}
use Rattle.intake.specs.Call.{appended}
use Rattle.intake.specs.Promises.{Taken, Answers}

-- the value with key k of order o stands at a part of buffer x; or it is missing or empty
abbrev pub FilledAt : List ℕ → List ℕ → Order → Options.Option Part → Type 0
FilledAt x k o Options.TheVariants.None = is_empty (value_of k o) ≡ true
FilledAt x k o (Options.TheVariants.Some r) = (r.from < r.to) × (r.to ≤ length x) × (value_of k o ≡ part x r.from r.to)

-- a good order's sheet put after the text in use of book b: the answer r, and the book's bytes y that are left
abbrev pub Appends : Book → Order → Taken → List ℕ → Type 0
Appends b o r y = Answers r y (appended b (added (text b) (sheet o)))
