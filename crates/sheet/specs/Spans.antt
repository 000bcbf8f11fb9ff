-- Where the parts of a buffer stand: what the code finds in it.
use Rattle.std.specs.Prelude.{◌≡◌, Bool, true, List, [], ℕ, zero, suc, ◌+◌, ◌*◌, ◌≤◌, ◌<◌, length, drop}
use Rattle.std.proofs.Math.Option.{Option, get_or, none, some}
use Rattle.text.specs.Parts.{part}
use Rattle.rules.specs.Items.{is_some}
use Rattle.std.specs.declared.option.Option as Options
use Rattle.std.specs.declared.result.Result as Results
use Rattle.text.specs.Number
use Rattle.sheet.specs.declared.buffer.Part.{Part}
use Rattle.sheet.specs.declared.pairs.PairSpan.{PairSpan}
use Rattle.sheet.specs.declared.layout.Layout.{Layout}
use Rattle.sheet.specs.declared.judge.Fault.{Fault}
use Rattle.sheet.specs.declared.judge.Fault.TheVariants as Faults
use Rattle.sheet.specs.Order.{Pair, pair, Order}
use Rattle.sheet.specs.Buffer.{pair_limit, text_width, cut_as, sized, pair_in, pairs_in, order_in}
use Rattle.sheet.specs.Faults.{Refused, Good, judged}

-- No length is given in more bytes.
abbrev pub widest : ℕ
widest = 4

-- one more than the greatest number that n bytes hold
unfoldable pub reach : ℕ → ℕ
reach zero = 1
reach (suc n) = 256 * reach n

-- that of a key's length, and of a title's or a value's
abbrev pub key_reach : ℕ
key_reach = 256

abbrev pub text_reach : ℕ
text_reach = 65536

-- at byte p of buffer x: the bytes after their length, which is given in n bytes
abbrev pub SizedAt : ℕ → List ℕ → ℕ → Options.Option Part → Type 0
SizedAt n x p Options.TheVariants.None = sized n (drop p x) ≡ none
SizedAt n x p (Options.TheVariants.Some r) =
    (r.from ≡ p + n) × (r.from ≤ r.to) × (r.to < r.from + reach n) × (r.to ≤ length x)
    × (sized n (drop p x) ≡ some (cut_as (part x r.from r.to) (drop r.to x)))

-- a pair stands at byte p
abbrev pub HasPair : List ℕ → ℕ → Type 0
HasPair x p = is_some (pair_in (drop p x)) ≡ true

-- A pair's key and value lie in buffer x, and are no longer than the bytes of their lengths can say.
pub record PairIn (x : List ℕ) (r : PairSpan) : Type 0 where
  pub key : r.from ≤ r.to
  pub between : r.to ≤ r.value
  pub value : r.value ≤ r.end
  pub inside : r.end ≤ length x
  pub key-short : r.to < r.from + key_reach
  pub value-short : r.end < r.value + text_reach

abbrev pub pair_of : List ℕ → PairSpan → Pair
pair_of x r = pair (part x r.from r.to) (part x r.value r.end)

-- that pair
pub record PairAt (x : List ℕ) (p : ℕ) (r : PairSpan) : Type 0 where
  pub spans : PairIn x r
  pub is : pair_in (drop p x) ≡ some (record { first = pair_of x r; rest = drop r.end x })

-- the longest line of a pair: key and value, two colons, a space and byte 10
abbrev pub longest : ℕ
longest = 255 + 65535 + 4

-- the longest sheet: its title's line, the lines around the pairs, and theirs
abbrev pub longest_sheet : ℕ
longest_sheet = 65535 + 3 + 19 + longest * pair_limit

-- n pairs stand from byte p on, and the buffer ends with them; the pairs themselves
unfoldable pub are_pairs : List ℕ → ℕ → ℕ → Bool
are_pairs x p n = is_some (pairs_in n (drop p x))

unfoldable pub pairs_at : List ℕ → ℕ → ℕ → List Pair
pairs_at x p n = get_or (pairs_in n (drop p x)) []

abbrev pub HasPairs : List ℕ → ℕ → ℕ → Type 0
HasPairs x p n = are_pairs x p n ≡ true

-- a test of the spans of pairs, told by its answers, is test f of the pairs themselves
abbrev pub Tests : List ℕ → (Pair → Bool) → (PairSpan → Bool → Type 0) → Type 0
Tests x f answers = (r : PairSpan) (b : Bool) → PairIn x r → answers r b → b ≡ f (pair_of x r)

-- the bytes that were sought, if there are any, stand at a part of buffer x
abbrev pub ValueAt : List ℕ → Option (List ℕ) → Options.Option Part → Type 0
ValueAt x v Options.TheVariants.None = v ≡ none
ValueAt x v (Options.TheVariants.Some r) = (r.from ≤ r.to) × (r.to ≤ length x) × (v ≡ some (part x r.from r.to))

-- the order whose title ends at a byte, before the count byte
abbrev pub order_at : List ℕ → Layout → Order
order_at x l = record { title = part x text_width l.title; pairs = pairs_at x (l.title + 1) l.count }

pub record LaidOut (x : List ℕ) (l : Layout) : Type 0 where
  pub from : text_width ≤ l.title
  pub to : l.title < length x
  pub short : l.title < text_width + text_reach
  pub few : l.count ≤ pair_limit
  pub pairs : HasPairs x (l.title + 1) l.count

abbrev pub OrderIn : List ℕ → Options.Option Layout → Type 0
OrderIn x Options.TheVariants.None = order_in x ≡ none
OrderIn x (Options.TheVariants.Some l) = LaidOut x l × (order_in x ≡ some (order_at x l))

-- the number of a fault
abbrev pub fault_number : Fault → ℕ
fault_number Faults.BadOrder = Number.bad_order
fault_number Faults.BadText = Number.bad_text
fault_number Faults.BadName = Number.bad_name
fault_number Faults.RepeatedKey = Number.repeated_key

abbrev pub JudgedAs : List ℕ → Results.Result Layout Fault → Type 0
JudgedAs x (Results.TheVariants.Err f) = judged x ≡ Refused (fault_number f)
JudgedAs x (Results.TheVariants.Ok l) = LaidOut x l × (judged x ≡ Good (order_at x l))
