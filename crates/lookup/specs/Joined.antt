-- Two texts in one: what is looked up in each is looked up in both together  [02 orders 6 and 14].
use Rattle.std.specs.Prelude.{◌≡◌, true, false, List, [], ◌∷◌, ◌++◌, map, ℕ, ◌+◌, ◌<◌, ◌≤◌, length}
use Rattle.std.specs.declared.result.Result.TheVariants.{Ok, Err}
use Rattle.text.specs.Limits.{text_limit}
use Rattle.text.specs.Lines.{Line, lines, is_ended, head_line}
use Rattle.rules.specs.Headings.{is_heading}
use Rattle.lookup.specs.declared.lookup.Refusal.TheVariants.{TooLong, NoHeading, BlankFirst, NotClosed, NotProperty, NoDrawer, NoKey, BadKey}
use Rattle.lookup.specs.Spans.{span}
use Rattle.lookup.specs.Lookup.{Answer, lookup}

-- an answer moved by n bytes; a refusal's empty part stays at byte 0
unfoldable pub shift : ℕ → Answer → Answer
shift n (Ok v) = Ok (span (n + v.start) (n + v.end))
shift n (Err TooLong) = Err TooLong
shift n (Err NoHeading) = Err NoHeading
shift n (Err BlankFirst) = Err BlankFirst
shift n (Err NotClosed) = Err NotClosed
shift n (Err (NotProperty q)) = Err (NotProperty (n + q))
shift n (Err NoDrawer) = Err NoDrawer
shift n (Err NoKey) = Err NoKey
shift n (Err BadKey) = Err BadKey

-- where the heading lines start, of some lines from byte p on, and of a text
unfoldable pub headings_from : ℕ → List Line → List ℕ
headings_from p [] = []
headings_from p (l ∷ ls) = elim (is_heading l) [ true ↦ p ∷ headings_from (p + length l) ls | false ↦ headings_from (p + length l) ls ]

unfoldable pub heading_starts : List ℕ → List ℕ
unfolding headings_from
heading_starts s = headings_from 0 (lines s)

-- Text t after text s: what stands in s is looked up as before, what stands in t as in t alone, but for the shift in place; and the headings are
-- those of both.
pub record Joined (s t : List ℕ) : Type 0 where
  pub earlier : (p : ℕ) → p < length s → (k : List ℕ) → lookup (s ++ t) p k ≡ lookup s p k
  pub later : (q : ℕ) (k : List ℕ) → lookup (s ++ t) (length s + q) k ≡ shift (length s) (lookup t q k)
  pub headings : heading_starts (s ++ t) ≡ heading_starts s ++ map (λ q. length s + q) (heading_starts t)

-- where the first ends its last line, the second starts with a heading line, and both together are within the limit
unfoldable pub JoinedTexts : Type 0
JoinedTexts = (s t : List ℕ) → is_ended s ≡ true → is_heading (head_line (lines t)) ≡ true → length (s ++ t) ≤ text_limit → Joined s t

-- The byte 10 that a last line lacks changes no answer.
unfoldable pub LineEnded : Type 0
LineEnded = (s : List ℕ) → is_ended s ≡ false → length s < text_limit → (p : ℕ) → p < length s → (k : List ℕ) → lookup (s ++ (10 ∷ [])) p k ≡ lookup s p k
