-- What the program's answer says of the bytes that it was to print.
use Rattle.std.specs.Prelude.{List, ℕ, ◌<◌, length, take, replicate, Some, None, Ok, Err, Result}
use Rattle.std.specs.Io.KnownBytes.{Keeps, Appends}
use Rattle.std.specs.declared.option.Option.{Option}
use Rattle.orgtable.specs.Printed.{printed_text}
use Rattle.orgtable.specs.declared.trouble.Trouble.{Trouble}
use Rattle.orgtable.specs.declared.trouble.Trouble.TheVariants.{Argument, Unread, Unwritten}

-- All of them are printed; none, where the input could not be read; or a part from the front, and not all, where the output could not be written.
unfoldable pub IsPrinted : Result Unit Trouble → Option (List ℕ) → Option (List ℕ) → List ℕ → Type 0
IsPrinted (Ok u) old new bs = Appends old new bs
IsPrinted (Err Argument) old new bs = ⊥
IsPrinted (Err Unread) old new bs = Keeps old new
IsPrinted (Err Unwritten) old new bs = (n : ℕ) × (n < length bs) × Appends old new (take n bs)

-- What is printed for a text s, read into a table of 16,384 numbers.
abbrev pub printed_table : List ℕ → List ℕ
printed_table s = printed_text s (replicate 16384 0)

-- That is printed for the text that a reader has left, where its bytes are known, else for some text.
unfoldable pub PrintsTable : Result Unit Trouble → Option (List ℕ) → Option (List ℕ) → Option (List ℕ) → Type 0
PrintsTable r None old new = (s : List ℕ) × IsPrinted r old new (printed_table s)
PrintsTable r (Some s) old new = IsPrinted r old new (printed_table s)
