-- What a read's answer means, and what an input came to: so many bytes in use of a buffer, or none where there are more than it holds; or an error where a read failed
-- [01 "What the reader covers"]. Of standard input no contract says which bytes come; of a reader whose bytes are known, as one over memory, this says
-- that they are the ones in use.
use Rattle.std.specs.Prelude.{List, [], ◌∷◌, ℕ, zero, suc, ◌≡◌, ◌<◌, ⊤, length, take, Some, None, Ok, Err, Result}
use Rattle.std.specs.declared.option.Option.{Option}
use Rattle.orgtable.specs.Printed.{refused, printed_text}

-- A read answers with an error where it failed, 0 at the end, else how many bytes it moved.
unfoldable pub step_of : {E : Type 0} → Result ℕ E → Result (Option ℕ) E
step_of (Ok zero) = Ok None
step_of (Ok (suc k)) = Ok (Some (suc k))
step_of (Err e) = Err e

-- The last read tells what the input came to when so many bytes are in use: more of them, and it is too long.
unfoldable pub input_of : {E : Type 0} → Result (Option ℕ) E → ℕ → Result (Option ℕ) E
input_of (Ok (Some k)) used = Ok None
input_of (Ok None) used = Ok (Some used)
input_of (Err e) used = Err e

-- Where the input's bytes are known, the bytes in use of the buffer b are all of them; an input that is too long has more than the buffer.
unfoldable pub InputHolds : {E : Type 0} → Result (Option ℕ) E → Option (List ℕ) → List ℕ → Type 0
InputHolds r None b = ⊤
InputHolds (Ok (Some k)) (Some s) b = take k b ≡ s
InputHolds (Ok None) (Some s) b = length b < length s
InputHolds (Err e) (Some s) b = ⊤

-- What is printed for it, when its bytes are at the front of the buffer b and are read into the table t. Where a read failed there is no table.
unfoldable pub printed_input : {E : Type 0} → Result (Option ℕ) E → List ℕ → List ℕ → List ℕ
printed_input (Ok (Some k)) b t = printed_text (take k b) t
printed_input (Ok None) b t = refused (1 ∷ [])
printed_input (Err e) b t = []
