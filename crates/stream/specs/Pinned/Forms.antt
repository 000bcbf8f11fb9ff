-- Forms of a case: states, headings and lent lists in numbers.
use Rattle.std.specs.Prelude.{Bool, true, false, List, [], ◌∷◌, ℕ, replicate}
use Rattle.text.specs.Cases.{OpenCases}
use Rattle.stream.specs.declared.state.Stream.{Stream}
use Rattle.stream.specs.declared.heading.Heading.{Heading}

-- a state: bytes in all; the unfinished line's bytes, stars and title; 0 before the end is declared
unfoldable pub stream : ℕ → ℕ → ℕ → ℕ → ℕ → Stream
stream n l s t e = record { total = n; line = l; stars = s; title = t; ended = e }

unfoldable pub state_parts : Stream → List ℕ
state_parts c = c.total ∷ c.line ∷ c.stars ∷ c.title ∷ c.ended ∷ []

-- a heading: start, stars, title length
unfoldable pub heading : ℕ → ℕ → ℕ → Heading
heading p s t = record { start = p; stars = s; title = t }

unfoldable pub heading_parts : List Heading → List ℕ
heading_parts [] = []
heading_parts (h ∷ hs) = h.start ∷ h.stars ∷ h.title ∷ heading_parts hs

-- a lent list of k numbers, each 9
unfoldable pub lent : ℕ → List ℕ
lent k = replicate k 9

-- a test in numbers: 1 true, 0 false
unfoldable pub truth : Bool → ℕ
truth true = 1
truth false = 0

-- opens these forms
unfoldable pub OpenForms : Type 1
unfolding OpenCases stream state_parts heading heading_parts lent truth
OpenForms = Type 0
