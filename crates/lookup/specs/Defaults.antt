-- House defaults  [02 order 13]: a lookup in an order text that turns to a second text, the defaults.
use Rattle.std.specs.Prelude.{Bool, true, false, not, ◌&&◌, ◌||◌, List, ℕ, eqb}
use Rattle.text.specs.Number
use Rattle.text.specs.Runs.{word, same}
use Rattle.text.specs.Parts.{next_line}
use Rattle.rules.specs.Headings.{is_heading}
use Rattle.lookup.specs.declared.defaults.Sourced.{Sourced}
use Rattle.lookup.specs.declared.defaults.Sourced.TheVariants.{Order, Defaults}
use Rattle.lookup.specs.Lookup as Lookup
use Rattle.lookup.specs.Lookup.{Answer, lookup, number}

-- the byte at which a text's first heading line starts; else the text's end, where none starts
unfoldable pub first_heading : List ℕ → ℕ
first_heading d = next_line is_heading d 0

-- Default fuel and boost sit in a second Org text, under its first heading: the defaults' own answer, 4 where these have no heading.
unfoldable pub of_defaults : List ℕ → List ℕ → Answer
of_defaults d k = lookup d (first_heading d) k

-- `VIN` and `REQUEST`, in any case, are never taken from the defaults.
unfoldable pub is_reserved : List ℕ → Bool
is_reserved k = same k (word "VIN") || same k (word "REQUEST")

-- the defaults are asked for key k after answer r of the order: after 6, but not for those two keys
unfoldable pub asks_defaults : Answer → List ℕ → Bool
asks_defaults r k = eqb (number r) Number.no_key && not (is_reserved k)

-- Any answer but 6 from the order stands; after 6 it is the defaults' own, but the order's 6 for those two keys.
unfoldable pub with_defaults : List ℕ → ℕ → List ℕ → List ℕ → Sourced
with_defaults s p d k =
    let r = lookup s p k in
    elim (asks_defaults r k) [ true ↦ Defaults (of_defaults d k) | false ↦ Order r ]

-- A number, 1 or 2, says which text the part is of; for a refusal it says whose answer this is.
abbrev pub the_order : ℕ
the_order = 1

abbrev pub the_defaults : ℕ
the_defaults = 2

abbrev pub whose : Sourced → ℕ
whose (Order r) = the_order
whose (Defaults r) = the_defaults

-- the answer itself
abbrev pub answer : Sourced → Answer
answer (Order r) = r
answer (Defaults r) = r

-- What comes back is a part of the order text or of the defaults text: the part itself, and where it stands, by where the two texts stand.
abbrev pub part_of : Sourced → List ℕ → List ℕ → List ℕ
part_of (Order r) s d = Lookup.part_of r s
part_of (Defaults r) s d = Lookup.part_of r d

abbrev pub place_of : Sourced → ℕ × ℕ → ℕ × ℕ → ℕ × ℕ
place_of (Order r) p q = Lookup.place_of r p
place_of (Defaults r) p q = Lookup.place_of r q

abbrev pub part_given : List ℕ → ℕ → List ℕ → List ℕ → List ℕ
part_given s p d k = part_of (with_defaults s p d k) s d

abbrev pub place_given : List ℕ → ℕ → List ℕ → List ℕ → ℕ × ℕ → ℕ × ℕ → ℕ × ℕ
place_given s p d k a b = place_of (with_defaults s p d k) a b
