-- What the C interface promises: the promises of the entry points, in the numbers of documents 01 and 02.
use Rattle.std.specs.Prelude.{◌≡◌, List, ℕ, ◌-◌, eqb, length}
use Rattle.text.specs.Parts.{part}
use Rattle.reading.specs.Answers.{Answer, number, count}
use Rattle.reading.specs.Promises.{Settled}
use Rattle.lookup.specs.Lookup as Lookup
use Rattle.lookup.specs.Defaults.{with_defaults, whose, answer}
use Rattle.lookup.specs.Promises.{Tied, SourcedFrom}
use Rattle.rules.specs.Closers.{search_from}
use Rattle.rules.specs.declared.closer.Closer.{Closer}
use Rattle.std.specs.declared.option.Option.{Option as Maybe}
use Rattle.std.specs.declared.option.Option.TheVariants.{None, Some}
use Rattle.dates.specs.Days as Days
use Rattle.dates.specs.Promises.{Counted}
use Rattle.dates.specs.Reads.{pick}
use Rattle.dates.specs.Stamps.{timestamp}
use Rattle.dates.specs.declared.stamp.Date.{Date}
use Rattle.dates.specs.declared.stamp.Timestamp.{Timestamp}
use Rattle.dates.specs.declared.planning.Planning.{Planning}
use Rattle.lookup.specs.Planning as Planned
use Rattle.sheet.specs.Promises as Sheet
use Rattle.intake.specs.Book.{book_of}
use Rattle.intake.specs.Promises as Intake
use Rattle.std.specs.declared.result.Result.{Result}
use Rattle.sheet.specs.declared.write.Refusal.{Refusal}
use Rattle.comaltzex.specs.Stamps.{stamp_numbers}
use Rattle.comaltzex.specs.declared.DayCount.{DayCount}
use Rattle.comaltzex.specs.declared.FoundStamp.{FoundStamp}
use Rattle.comaltzex.specs.declared.Plan.{Plan}
use Rattle.comaltzex.specs.declared.Reading.{Reading}
use Rattle.comaltzex.specs.declared.value.Value.{Value}
use Rattle.comaltzex.specs.declared.value.SourcedValue.{SourcedValue}
use Rattle.comaltzex.specs.declared.ClosingLine.{ClosingLine}
use Rattle.comaltzex.specs.declared.Written.{Written}
use Rattle.comaltzex.specs.declared.Taken.{Taken}

-- the version of the interface: another one whenever an answer, the record's width or a function's signature changes, or a function is added
abbrev pub version : ℕ
version = 9

-- a closer in numbers: whether there is one, and its line's ends; all 0 where there is none
abbrev pub found_number : Maybe Closer → ℕ
found_number (Some c) = 1
found_number None = 0

abbrev pub closer_start : Maybe Closer → ℕ
closer_start (Some c) = c.start
closer_start None = 0

abbrev pub closer_end : Maybe Closer → ℕ
closer_end (Some c) = c.end
closer_end None = 0

-- a reading call with text s and lent table t answers r and leaves t'
pub record ReadsAs (s t : List ℕ) (r : Reading) (t' : List ℕ) : Type 0 where
  pub answer : Answer
  pub settled : Settled s t answer t'
  pub number : r.number ≡ number answer
  pub count : r.count ≡ count answer

-- a lookup of key k at byte p of text s answers r
pub record LooksUpAs (s : List ℕ) (p : ℕ) (k : List ℕ) (r : Value) : Type 0 where
  pub number : r.number ≡ Lookup.number (Lookup.lookup s p k)
  pub start : r.start ≡ Lookup.start (Lookup.lookup s p k)
  pub end : r.end ≡ Lookup.end (Lookup.lookup s p k)
  pub further : r.further ≡ Lookup.further (Lookup.lookup s p k)
  pub tied : Tied s p k (Lookup.lookup s p k)

-- a lookup of key k at byte p of order text s with defaults text d answers r  [02 order 13]
pub record SourcesAs (s : List ℕ) (p : ℕ) (d k : List ℕ) (r : SourcedValue) : Type 0 where
  pub number : r.number ≡ Lookup.number (answer (with_defaults s p d k))
  pub whose : r.whose ≡ whose (with_defaults s p d k)
  pub start : r.start ≡ Lookup.start (answer (with_defaults s p d k))
  pub end : r.end ≡ Lookup.end (answer (with_defaults s p d k))
  pub further : r.further ≡ Lookup.further (answer (with_defaults s p d k))
  pub sourced : SourcedFrom s p d k (with_defaults s p d k)

-- a search from byte p in a container that ends at byte e of text s answers r
pub record SearchesAs (s : List ℕ) (p e : ℕ) (r : ClosingLine) : Type 0 where
  pub found : r.found ≡ found_number (search_from s p e).closer
  pub start : r.start ≡ closer_start (search_from s p e).closer
  pub end : r.end ≡ closer_end (search_from s p e).closer
  pub compared : r.compared ≡ (search_from s p e).compared

-- the days from a date to a second one
pub record CountsAs (a b : Date) (r : DayCount) : Type 0 where
  pub number : r.number ≡ Days.number a b
  pub days : r.days ≡ Days.days a b
  pub counted : Counted

-- a timestamp with the byte after it, which is 0 for none
abbrev pub found_stamp : Maybe Timestamp → ℕ → FoundStamp
found_stamp t e =
    let n = stamp_numbers t in
    record { kind = n.kind; end = pick (eqb n.kind 0) 0 e; first = n.first; second = n.second }

-- the timestamp that starts at byte p of text s
abbrev pub stamp_at : List ℕ → ℕ → FoundStamp
stamp_at s p = let t = timestamp (part s p (length s)) in found_stamp t.0 (length s - length t.1)

-- the stamps of a planning line's three keywords
abbrev pub plan : ℕ → Planning → Plan
plan n p = record { number = n; closed = stamp_numbers p.closed; deadline = stamp_numbers p.deadline; scheduled = stamp_numbers p.scheduled }

-- those of the heading line that starts at byte p of text s
abbrev pub plan_at : List ℕ → ℕ → Plan
plan_at s p = let a = Planned.planning s p in plan (Planned.number a) (Planned.stamps a)

-- a sheet call with order buffer x and lent output t answers r and leaves t'  [02 order 5]
pub record WritesAs (x t : List ℕ) (r : Written) (t' : List ℕ) : Type 0 where
  pub answer : Result ℕ Refusal
  pub settled : Sheet.Settled x t answer t'
  pub number : r.number ≡ Sheet.answer_number answer
  pub count : r.count ≡ Sheet.answer_count answer

-- a call of the intake with book x, bytes in use u and order buffer y answers r and leaves x'  [02 order 6]
pub record TakesAs (x : List ℕ) (u : ℕ) (y : List ℕ) (r : Taken) (x' : List ℕ) : Type 0 where
  pub answer : Intake.Taken
  pub settled : Intake.Settled (book_of x u) y answer x'
  pub number : r.number ≡ answer.number
  pub count : r.count ≡ answer.used

-- and one with log y
pub record PlaysAs (x : List ℕ) (u : ℕ) (y : List ℕ) (r : Taken) (x' : List ℕ) : Type 0 where
  pub answer : Intake.Taken
  pub settled : Intake.LogSettled (book_of x u) y answer x'
  pub number : r.number ≡ answer.number
  pub count : r.count ≡ answer.used
