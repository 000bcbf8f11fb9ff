-- What is promised of a sheet  [02 order 5].
use Rattle.std.specs.Prelude.{◌≡◌, true, false, List, [], ℕ, ◌<◌, length, get_or, take}
use Rattle.text.specs.Number
use Rattle.text.specs.Runs.{same}
use Rattle.lookup.specs.Stages.{is_bad_key}
use Rattle.lookup.specs.Lookup.{lookup, number, part_of}
use Rattle.table.specs.Nesting.{nesting}
use Rattle.table.specs.Reading.{reading}
use Rattle.std.specs.declared.result.Result.{Result}
use Rattle.std.specs.declared.result.Result.TheVariants.{Ok, Err}
use Rattle.sheet.specs.declared.write.Refusal.{Refusal}
use Rattle.sheet.specs.declared.write.Refusal.TheVariants as Refusals
use Rattle.sheet.specs.Order.{Pair, pair, Order, has_key}
use Rattle.sheet.specs.Faults.{Good, judged}
use Rattle.sheet.specs.Sheet.{sheet}
use Rattle.sheet.specs.Spans.{fault_number}
use Rattle.sheet.specs.Table.{sheet_table}
use Rattle.sheet.specs.Answers.{Outcome, write_sheet}

-- key k, looked up at byte p of text s, gives exactly the bytes v
pub record Gives (s : List ℕ) (p : ℕ) (k v : List ℕ) : Type 0 where
  pub found : number (lookup s p k) ≡ Number.done
  pub bytes : part_of (lookup s p k) s ≡ v

-- pair i
abbrev pub pair_at : Order → ℕ → Pair
pair_at o i = get_or o.pairs i (pair [] [])

-- Text s as the sheet of order o.
pub record SheetOf (o : Order) (s : List ℕ) : Type 0 where
  -- Each key looked up gives its pair's bytes back, whatever the case of its letters; and no other key is there.
  pub given : (i : ℕ) → i < length o.pairs → (k : List ℕ) → same (pair_at o i).key k ≡ true → Gives s 0 k (pair_at o i).value
  pub none : (k : List ℕ) → is_bad_key k ≡ false → has_key k o.pairs ≡ false → number (lookup s 0 k) ≡ Number.no_key
  -- The sheet reads as one heading with one property drawer, and nothing in it is nested: a reading refuses it for nothing but room.
  pub reads : reading s ≡ sheet_table o
  pub flat : nesting (reading s) ≡ 0

-- With 0 the buffer holds an order that none of 12 to 15 refuses, and the output starts with its sheet, of so many bytes as the count says.
pub record WrittenFor (x : List ℕ) (s : List ℕ) : Type 0 where
  pub order : Order
  pub good : judged x ≡ Good order
  pub bytes : s ≡ sheet order
  pub promised : SheetOf order s

-- the number of a refusal, and the bytes needed, else 0
abbrev pub refusal_number : Refusal → ℕ
refusal_number (Refusals.Fault f) = fault_number f
refusal_number Refusals.TooLong = Number.too_long
refusal_number (Refusals.ShortOutput n) = Number.short_output

abbrev pub needed : Refusal → ℕ
needed (Refusals.Fault f) = 0
needed Refusals.TooLong = 0
needed (Refusals.ShortOutput n) = n

-- an answer's number and count: 0 and the sheet's length, or those of the refusal
abbrev pub answer_number : Result ℕ Refusal → ℕ
answer_number (Ok n) = Number.done
answer_number (Err f) = refusal_number f

abbrev pub answer_count : Result ℕ Refusal → ℕ
answer_count (Ok n) = n
answer_count (Err f) = needed f

-- answer r and the output t' that is left are an outcome
pub record Answers (r : Result ℕ Refusal) (t' : List ℕ) (w : Outcome) : Type 0 where
  pub number : answer_number r ≡ w.number
  pub count : answer_count r ≡ w.count
  pub output : t' ≡ w.output

-- Buffer x and lent output t: the answer r, and the output t' that is left.
pub record Settled (x t : List ℕ) (r : Result ℕ Refusal) (t' : List ℕ) : Type 0 where
  pub answers : Answers r t' (write_sheet x t)
  pub written : answer_number r ≡ Number.done → WrittenFor x (take (answer_count r) t')
