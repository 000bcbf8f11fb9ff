-- What is promised of a call, and of a book in any pieces  [02 order 9].
use Rattle.std.specs.Prelude.{◌≡◌, ◌↔◌, Bool, true, false, ◌&&◌, List, [], ◌∷◌, ◌++◌, map, ℕ, ◌*◌, ◌≤◌, length, take, eqb}
use Rattle.text.specs.Number
use Rattle.text.specs.Limits.{text_limit}
use Rattle.rules.specs.Kind
use Rattle.table.specs.declared.record.Record.{Record}
use Rattle.table.specs.Reading.{reading}
use Rattle.stream.specs.declared.state.Stream.{Stream}
use Rattle.stream.specs.declared.heading.Heading.{Heading}
use Rattle.stream.specs.declared.call.Streamed.{Streamed}
use Rattle.stream.specs.Headings.{headings, heading_size, numbers}
use Rattle.stream.specs.State.{finished_part, state_of, new_stream, with_end}
use Rattle.stream.specs.Call.{Call, room, piece, end}

-- ---- the headings of a text

-- the start and stars of a heading, and of each heading record of a table
abbrev pub start_and_stars : Heading → ℕ × ℕ
start_and_stars h = (h.start, h.stars)

unfoldable pub heading_records : List Record → List (ℕ × ℕ)
heading_records [] = []
heading_records (r ∷ R) = elim (eqb r.kind Kind.heading) [ true ↦ (r.start, r.detail) ∷ heading_records R | false ↦ heading_records R ]

-- A text's headings are the heading records of its reading, in order.
unfoldable pub AsRead : Type 0
AsRead = (s : List ℕ) → map start_and_stars (headings s) ≡ heading_records (reading s)

-- ---- states

-- A state is open exactly when it is that of a text within the limit.
abbrev pub IsOpen : Stream → Type 0
IsOpen c = (s : List ℕ) × (length s ≤ text_limit) × (state_of s ≡ c)

-- ---- a book in pieces

-- a piece of a book, and the list that is lent with it
pub record Piece : Type 0 where
  pub bytes : List ℕ
  pub list : List ℕ

-- the book that some pieces make
unfoldable pub joined : List Piece → List ℕ
joined [] = []
joined (p ∷ ps) = p.bytes ++ joined ps

-- what calls in turn, each handed the state that the last gave, leave: whether none was refused, the state, and the joined list
pub record Run : Type 0 where
  pub accepted : Bool
  pub state : Stream
  pub list : List ℕ

-- what a call has written
abbrev pub taken : Call → List ℕ
taken a = take (heading_size * a.count) a.list

abbrev pub after : Call → Run → Run
after a r = record { accepted = eqb a.number Number.done && r.accepted; state = r.state; list = taken a ++ r.list }

-- pieces from state c on, and then the end, with list t
unfoldable pub run_to : Stream → List Piece → List ℕ → Run
run_to c [] t = let a = end c t in after a (record { accepted = true; state = a.state; list = [] })
run_to c (p ∷ ps) t = let a = piece c p.bytes p.list in after a (run_to a.state ps t)

-- From a new state, with no call refused, the joined list and final state are those of the book: they do not depend on how it is split.
pub record Whole (ps : List Piece) (r : Run) : Type 0 where
  pub list : r.list ≡ numbers (headings (joined ps))
  pub state : r.state ≡ with_end (state_of (joined ps))

unfoldable pub AnySplit : Type 0
AnySplit = (ps : List Piece) (t : List ℕ) → let r = run_to new_stream ps t in r.accepted ≡ true → Whole ps r

-- ---- a call

-- answer r and the list y that is left are a call's
pub record Answers (r : Streamed) (y : List ℕ) (a : Call) : Type 0 where
  pub number : r.number ≡ a.number
  pub count : r.count ≡ a.count
  pub state : r.state ≡ a.state
  pub list : y ≡ a.list

-- State and list are as before.
pub record AsBefore (c : Stream) (t : List ℕ) (r : Streamed) (y : List ℕ) : Type 0 where
  pub state : r.state ≡ c
  pub list : y ≡ t

-- After the headings of s's finished lines, what the call has written are those of t.
abbrev pub Adds : List ℕ → List ℕ → Streamed → List ℕ → Type 0
Adds s t r y = numbers (headings t) ≡ numbers (headings (finished_part s)) ++ take (heading_size * r.count) y

-- What holds of a book in any pieces.
pub record Promised : Type 0 where
  pub as_read : AsRead
  -- a new state is that of no bytes
  pub new : state_of [] ≡ new_stream
  pub any_split : AnySplit

-- State c, piece x and list t: the answer r, and the list y that is left.
pub record Settled (c : Stream) (x t : List ℕ) (r : Streamed) (y : List ℕ) : Type 0 where
  pub answers : Answers r y (piece c x t)
  pub refused : (r.number ≡ Number.done → ⊥) → AsBefore c t r y
  -- 21 exactly where the state is not open: a text's, its end not declared
  pub not_open : (r.number ≡ Number.not_open) ↔ (IsOpen c → ⊥)
  -- the state of a text s becomes that of s and the piece, and the headings are written whose lines the piece finishes
  pub goes_on : (s : List ℕ) → state_of s ≡ c → r.number ≡ Number.done → (r.state ≡ state_of (s ++ x)) × Adds s (finished_part (s ++ x)) r y
  -- refused with 3, and tried again with that room, it gives what it would have given
  pub again : r.number ≡ Number.no_room → (u : List ℕ) → r.count ≤ room u → ((piece c x u).number ≡ Number.done) × ((piece c x u).count ≡ r.count)
  pub promised : Promised

-- State c and list t: the answer r to the declared end, and the list y that is left.
pub record EndSettled (c : Stream) (t : List ℕ) (r : Streamed) (y : List ℕ) : Type 0 where
  pub answers : Answers r y (end c t)
  pub refused : (r.number ≡ Number.done → ⊥) → AsBefore c t r y
  pub not_open : (r.number ≡ Number.not_open) ↔ (IsOpen c → ⊥)
  -- the last line of a text s is finished, and its heading written
  pub ends : (s : List ℕ) → state_of s ≡ c → r.number ≡ Number.done → (r.state ≡ with_end (state_of s)) × Adds s s r y
  -- once accepted, nothing more is
  pub closed : r.number ≡ Number.done → (IsOpen r.state → ⊥)
  pub again : r.number ≡ Number.no_room → (u : List ℕ) → r.count ≤ room u → ((end c u).number ≡ Number.done) × ((end c u).count ≡ r.count)
  pub promised : Promised
