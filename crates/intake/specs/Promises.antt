-- What is promised of a call, of any run of calls on one book, and of a log  [02 order 6].
use Rattle.std.specs.Prelude.{◌≡◌, List, ◌∷◌, ℕ, ◌<◌, length, take, drop}
use Rattle.text.specs.Number
use Rattle.lookup.specs.Lookup.{lookup}
use Rattle.sheet.specs.Order.{Order}
use Rattle.sheet.specs.Form.{Entry}
use Rattle.sheet.specs.Faults.{Good, judged}
use Rattle.sheet.specs.Promises.{Gives}
use Rattle.std.specs.Result.{result_unwrap_or}
use Rattle.std.specs.declared.result.Result.{Result}
use Rattle.std.specs.declared.result.Result.TheVariants.{Ok, Err}
use Rattle.sheet.specs.Spans.{fault_number}
use Rattle.intake.specs.declared.call.Refusal.{Refusal}
use Rattle.intake.specs.declared.call.Refusal.TheVariants as Refusals
use Rattle.intake.specs.declared.log.CutLog.{CutLog}
use Rattle.intake.specs.Required.{request_key, vin_key, request_of, vin_of}
use Rattle.intake.specs.Book.{Book, book_of, text}
use Rattle.intake.specs.Call.{Call, call}
use Rattle.intake.specs.Log.{log_width, run, played}
use Rattle.intake.specs.Form.{log_bytes, orders_of}

-- ---- any run of calls

-- `REQUEST` looks value v up at one heading of text s only, whose `VIN` is w
pub record OneHeading (s v w : List ℕ) : Type 0 where
  pub place : ℕ
  pub request : Gives s place request_key v
  pub car : Gives s place vin_key w
  pub only : (p : ℕ) → Gives s p request_key v → p ≡ place

-- Every heading of text s looks up every key in t as in s: headings stand at bytes of s, and at its other bytes both find none.
unfoldable pub LooksUpAsBefore : List ℕ → List ℕ → Type 0
LooksUpAsBefore s t = (p : ℕ) → p < length s → (k : List ℕ) → lookup t p k ≡ lookup s p k

-- a call with buffer x is accepted, with order o
pub record Accepted (b : Book) (x : List ℕ) (o : Order) : Type 0 where
  pub good : judged x ≡ Good o
  pub number : (call b x).number ≡ Number.done

-- some call of a run is
pub data AcceptedIn : Book → List (List ℕ) → Order → Type 0 where
  here : {b : Book} {x : List ℕ} {xs : List (List ℕ)} {o : Order} → Accepted b x o → AcceptedIn b (x ∷ xs) o
  later : {b : Book} {x : List ℕ} {xs : List (List ℕ)} {o : Order} → AcceptedIn (call b x).after xs o → AcceptedIn b (x ∷ xs) o

-- After any run of calls on one book, each handed the bytes in use that the last gave, with no other writer between, `REQUEST` looks up each value
-- added by intake at one heading only, whose `VIN` is the accepted call's, and every earlier heading looks up as before.
pub record AnyRun (b : Book) (xs : List (List ℕ)) : Type 0 where
  pub once : (o : Order) → AcceptedIn b xs o → OneHeading (text (run b xs)) (request_of o) (vin_of o)
  pub earlier : LooksUpAsBefore (text b) (text (run b xs))

-- ---- a call

-- what an answer says: its number, and the bytes in use after it
pub record Taken : Type 0 where
  pub number : ℕ
  pub used : ℕ

-- the number of a refusal, and of an answer
abbrev pub refusal_number : Refusal → ℕ
refusal_number (Refusals.Fault f) = fault_number f
refusal_number Refusals.MissingKey = Number.missing_key
refusal_number Refusals.BadUsed = Number.bad_used
refusal_number Refusals.Seen = Number.seen
refusal_number Refusals.TooLong = Number.too_long
refusal_number Refusals.ShortOutput = Number.short_output

abbrev pub answer_number : Result ℕ Refusal → ℕ
answer_number (Ok n) = Number.done
answer_number (Err f) = refusal_number f

-- what is said where u bytes were in use: with a refusal they are in use still
abbrev pub told : ℕ → Result ℕ Refusal → Taken
told u r = record { number = answer_number r; used = result_unwrap_or r u }

-- answer r and the bytes y that are left are a call's
pub record Answers (r : Taken) (y : List ℕ) (c : Call) : Type 0 where
  pub number : r.number ≡ c.number
  pub used : r.used ≡ c.after.used
  pub bytes : y ≡ c.after.bytes

-- Book and bytes in use are as before.
pub record AsBefore (b : Book) (r : Taken) (y : List ℕ) : Type 0 where
  pub used : r.used ≡ b.used
  pub bytes : y ≡ b.bytes

-- The bytes that were in use are unchanged, and so are those past the bytes in use now.
pub record Untouched (b : Book) (r : Taken) (y : List ℕ) : Type 0 where
  pub earlier : take b.used y ≡ take b.used b.bytes
  pub past : drop r.used y ≡ drop r.used b.bytes
  pub size : length y ≡ length b.bytes

-- Book b and order buffer x: the answer r, and the book's bytes y that are left.
pub record Settled (b : Book) (x : List ℕ) (r : Taken) (y : List ℕ) : Type 0 where
  pub answers : Answers r y (call b x)
  pub accepted : r.number ≡ Number.done → (o : Order) × Accepted b x o
  pub refused : (r.number ≡ Number.done → ⊥) → AsBefore b r y
  pub untouched : Untouched b r y
  pub runs : (xs : List (List ℕ)) → AnyRun b xs

-- ---- a log

-- the same of a log
abbrev pub log_number : Result ℕ CutLog → ℕ
log_number (Ok n) = Number.done
log_number (Err e) = Number.cut_log

abbrev pub told_log : ℕ → Result ℕ CutLog → Taken
told_log u r = record { number = log_number r; used = result_unwrap_or r u }

-- Book b and log x: the answer r, and the book's bytes y that are left.
pub record LogSettled (b : Book) (x : List ℕ) (r : Taken) (y : List ℕ) : Type 0 where
  pub answers : Answers r y (played b x)
  -- It ends as the single calls in turn would; what has not a log's form is cut short, and nothing is done.
  pub calls : (es : List (Entry log_width)) → log_bytes es ≡ x → (r.number ≡ Number.done) × (book_of y r.used ≡ run b (orders_of es))
  pub cut : ((es : List (Entry log_width)) → log_bytes es ≡ x → ⊥) → (r.number ≡ Number.cut_log) × AsBefore b r y
  -- Played again it changes no byte.
  pub again : (played (book_of y r.used) x).after ≡ book_of y r.used
  pub runs : (xs : List (List ℕ)) → AnyRun b xs
