-- The form of a buffer, told by what it is made of: what is read of it is just what was put in  [02 order 5].
use Rattle.std.specs.Prelude.{◌≡◌, List, [], ◌∷◌, ◌++◌, ℕ, ◌≤◌, length}
use Rattle.std.proofs.Math.Option.{some}
use Rattle.sheet.specs.Order.{Pair, pair, Order}
use Rattle.sheet.specs.Buffer.{pair_limit, text_width, key_width, low_first, order_in}

-- some bytes after their length, in n bytes, low first
pub record Entry (n : ℕ) : Type 0 where
  pub head : List ℕ
  pub bytes : List ℕ
  pub size : length head ≡ n
  pub counted : low_first head ≡ length bytes

pub record PairEntry : Type 0 where
  pub key : Entry key_width
  pub value : Entry text_width

unfoldable pub pair_bytes : List PairEntry → List ℕ
pair_bytes [] = []
pair_bytes (p ∷ ps) = p.key.head ++ (p.key.bytes ++ (p.value.head ++ (p.value.bytes ++ pair_bytes ps)))

unfoldable pub pairs_of : List PairEntry → List Pair
pairs_of [] = []
pairs_of (p ∷ ps) = pair p.key.bytes p.value.bytes ∷ pairs_of ps

-- title; pair count in one byte, at most 16; pairs
pub record Form : Type 0 where
  pub title : Entry text_width
  pub count : List ℕ
  pub one : length count ≡ 1
  pub pairs : List PairEntry
  pub counted : low_first count ≡ length pairs
  pub few : length pairs ≤ pair_limit

unfoldable pub form_bytes : Form → List ℕ
unfolding pair_bytes
form_bytes f = f.title.head ++ (f.title.bytes ++ (f.count ++ pair_bytes f.pairs))

unfoldable pub order_of : Form → Order
unfolding pairs_of
order_of f = record { title = f.title.bytes; pairs = pairs_of f.pairs }

-- A buffer is refused by 12 just where it has not this form: else it is cut short, long, or of over 16 pairs.
pub record ReadsForms : Type 0 where
  pub given : (f : Form) → order_in (form_bytes f) ≡ some (order_of f)
  pub only : (x : List ℕ) (o : Order) → order_in x ≡ some o → (f : Form) × ((form_bytes f ≡ x) × (order_of f ≡ o))
