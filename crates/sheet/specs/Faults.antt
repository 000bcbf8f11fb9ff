-- What an order is refused for  [02 order 5], each over the whole buffer before the next.
use Rattle.std.specs.Prelude.{Bool, true, false, ◌||◌, List, [], ◌∷◌, ℕ, eqb}
use Rattle.std.proofs.Math.Option.{none, some}
use Rattle.text.specs.Number
use Rattle.text.specs.Bytes.{is_blank}
use Rattle.text.specs.Runs.{word, same}
use Rattle.rules.specs.Names.{ends_in}
use Rattle.lookup.specs.Stages.{is_bad_key}
use Rattle.sheet.specs.Order.{Pair, Order, some_pair, has_key}
use Rattle.sheet.specs.Buffer.{order_in, OpenBuffer}

-- byte 10 or 13
unfoldable pub is_break : ℕ → Bool
is_break b = eqb b 10 || eqb b 13

unfoldable pub has_break : List ℕ → Bool
unfolding is_break
has_break [] = false
has_break (b ∷ x) = is_break b || has_break x

unfoldable pub starts_blank : List ℕ → Bool
starts_blank [] = false
starts_blank (b ∷ x) = is_blank b

unfoldable pub ends_blank : List ℕ → Bool
ends_blank [] = false
ends_blank (b ∷ []) = is_blank b
ends_blank (b ∷ c ∷ x) = ends_blank (c ∷ x)

-- with byte 10 or 13, or a blank byte at either end
unfoldable pub is_bad_text : List ℕ → Bool
unfolding has_break starts_blank ends_blank
is_bad_text x = has_break x || starts_blank x || ends_blank x

-- 13: title or value
unfoldable pub has_bad_text : Order → Bool
has_bad_text o = is_bad_text o.title || some_pair (λ p. is_bad_text p.value) o.pairs

-- 14: bad key, or `END`
unfoldable pub is_bad_name : List ℕ → Bool
is_bad_name k = is_bad_key k || same k (word "END")

unfoldable pub has_bad_name : Order → Bool
unfolding is_bad_name
has_bad_name o = some_pair (λ p. is_bad_name p.key) o.pairs

-- 15: key repeated, case ignored
unfoldable pub repeats : List Pair → Bool
repeats [] = false
repeats (p ∷ ps) = has_key p.key ps || repeats ps

-- a buffer's order, or the first of 12, 13, 14, 15 that holds
pub data Judged : Type 0 where
  Refused : ℕ → Judged
  Good : Order → Judged

abbrev pub refuse_if : Bool → ℕ → Judged → Judged
refuse_if true n rest = Refused n
refuse_if false n rest = rest

unfoldable pub judged_order : Order → Judged
judged_order o =
    refuse_if (has_bad_text o) Number.bad_text
    (refuse_if (has_bad_name o) Number.bad_name
    (refuse_if (repeats o.pairs) Number.repeated_key
    (Good o)))

unfoldable pub judged : List ℕ → Judged
unfolding judged_order
judged x = elim (order_in x) [ none ↦ Refused Number.bad_order | some o ↦ judged_order o ]

-- opens the definitions of this file and of those it stands on, for computed examples
unfoldable pub OpenFaults : Type 1
unfolding OpenBuffer ends_in is_bad_key is_break has_break starts_blank ends_blank is_bad_text has_bad_text is_bad_name has_bad_name repeats judged_order judged
OpenFaults = Type 0
