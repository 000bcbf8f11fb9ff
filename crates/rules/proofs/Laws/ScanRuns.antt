-- The scans for an item's and a list's lines in a text: where they end, and one turn of the loops that work them out.
-- Assumes nothing.
use mathlib.Core.Path.{◌≡◌, refl, sym, ap, ◌∙◌}
use mathlib.Core.Bool.{Bool, true, false, ◌&&◌, true≢false}
use mathlib.Core.List.{List, ◌∷◌}
use Prim.Native.Nat.{ℕ, ◌+◌, ◌≤◌, ◌<◌}
use native.Mathlib.Omega.{arith}
use lib.Dec.{ltb, leb, eqb}
use lib.ListN.{length, take, drop, get_or, length-drop}
use lib.Seq.{drop-drop}
use borrow.Table.Steps.{cases}
use borrow.Author.Tests.{ltb-true, leb-true, lt-ltb, le-ltb, le-leb, lt-leb}
use Rattle.std.specs.declared.option.Option.TheVariants.{None, Some}
use Rattle.text.specs.Bytes.{is_indent, lower}
use Rattle.text.specs.Runs.{run}
use Rattle.text.specs.Lines.{Line, size, blank_line, indent, body_end, head_line, tail_lines, blanks}
use Rattle.text.specs.Parts.{part, lines_in, line_in, first_line}
use Rattle.text.specs.Spans.{line_span}
use Rattle.text.specs.declared.line.LineSpan.{LineSpan}
use Rattle.text.proofs.Laws.Lines.{size-head_line, size-take-add, blank_line-yes, body_end-from, body_end-le}
use Rattle.text.proofs.Laws.LinesIn.{lines_in-nil, lines_in-drop, lines_in-step, lines_in-length, within-lines_in, some-lines_in, line_in-to, first_line-nonblank}
use Rattle.rules.specs.Items.{width_of, width, is_item}
use Rattle.rules.specs.Lists.{together, item_lines, item, list_lines, list_of}
use Rattle.rules.specs.Known.{Knows}
use Rattle.rules.specs.Findings.{LineOf}
use Rattle.rules.specs.Scans.{run_by, together_run, item_run, list_run, next_of}
use Rattle.rules.specs.declared.lines.LineRun.{LineRun}
use Rattle.rules.specs.declared.list.Next.{Next}
use Rattle.rules.proofs.Basics.{and_yes}
use Rattle.rules.proofs.Laws.Items.{width-part}
use Rattle.rules.proofs.Laws.LineOf.{indent-run, line_of, line_of-end, line_of-order, line_of-lines}
use Rattle.rules.proofs.Laws.FirstByte.{first_at, first_some}
use Rattle.rules.proofs.Laws.NoLines.{knows_more}
use Rattle.rules.proofs.Laws.Paragraphs.{line_run, line_run-same}
use Rattle.rules.proofs.Laws.Together.{together-least, three-unwanted, three-none, together-alone}
use Rattle.rules.proofs.Laws.Scans.{split, item_lines-le, item_lines-out, list_lines-le, list_lines-in, list_lines-out}
use Rattle.rules.proofs.Laws.Scans.{list_rest, list_rest-pass, item_lines-together}
use Rattle.rules.proofs.Laws.Scans.{Gapped, item-gapped, list-gapped, later, gapped-many, gapped-none, gapped-some}

-- ---- so many lines as a scan says

module _ (F : List Line → ℕ) (s : List ℕ) (p e n : ℕ) where
  abbrev ls : List Line
  ls = lines_in s p e

  pub run_by-none : F ls ≡ 0 → line_run p n ≡ run_by F s p e n
  unfolding run_by size
  run_by-none h = rw h (line_run-same (omega arith) (omega arith))

  -- past m lines
  pub run_by-pass : (G : List Line → ℕ) (m q k : ℕ) → F ls ≡ m + G (drop m ls) → q ≡ p + size (take m ls) → k ≡ n + m
      → run_by G s q e k ≡ run_by F s p e n
  unfolding run_by
  run_by-pass G m q k h i j =
      rw (i, lines_in-drop s p e m, h) (line_run-same (omega (arith, size-take-add m (G (drop m ls)) ls)) (omega arith))

  -- counted on from n
  pub run_by-on : (r : LineRun) → r ≡ run_by F s p e 0 → line_run r.end (n + r.lines) ≡ run_by F s p e n
  unfolding run_by
  run_by-on r h = line_run-same (ap (λ (x : LineRun). x.end) h) (omega (arith, ap (λ (x : LineRun). x.lines) h))

  pub run_by-order : (r : LineRun) → r ≡ run_by F s p e n → p ≤ e → e ≤ length s → (p ≤ r.end) × (r.end ≤ e)
  unfolding run_by
  run_by-order r h i k =
      let w = within-lines_in s p e i k (F ls) in
      let g = ap (λ (x : LineRun). x.end) h in
      (omega arith, omega arith)

-- ---- a line that is not blank, from byte p on, and its body from byte b on

module _ (s : List ℕ) (p b e : ℕ) (some : p < e) (text : e ≤ length s) (start : b ≡ p + indent (line_in s p e))
    (nonblank : blank_line (line_in s p e) ≡ false) where
  abbrev here : Line
  here = line_in s p e

  body-some : indent here < body_end here
  body-some =
      split (indent here) (body_end here)
      (λ i. i)
      (λ i. absurd (true≢false (sym (blank_line-yes here (omega (arith, body_end-from here))) ∙ nonblank)))

  pub body-within : b < e
  body-within = omega (arith, body-some, body_end-le here, line_in-to s p e (omega arith) text)

  first_byte : first_at (lines_in s p e) ≡ lower (get_or s b 0)
  unfolding line_span
  first_byte =
      let l = line_span s p e in
      rw start (first_some s l e (line_of s l p e some text refl) (omega (arith, body-some)))

  -- it stands alone where its body starts with none of `#`, `:` and `|`
  pub line-alone : let x = get_or s b 0 in (x ≡ 35 → ⊥) → (x ≡ 58 → ⊥) → (x ≡ 124 → ⊥) → (q : ℕ) → q ≡ p + length here → line_run q 1 ≡ together_run s p e
  line-alone hash colon bar q i =
      together-alone s p e q some text i (three-none (lines_in s p e) _ first_byte (three-unwanted (get_or s b 0) hash colon bar))

-- ---- the next line

-- what is told of it: it starts at byte q, its body at byte b, its indentation is v, and k blank lines stand before it
pub record IsNext (s : List ℕ) (p e q b v k : ℕ) : Type 0 where
  pub start : q ≡ first_line s p e
  pub some : q < e
  pub body : b ≡ q + indent (line_in s q e)
  pub wide : v ≡ width (line_in s q e)
  pub gap : k ≡ blanks (lines_in s p e)
  pub few : k ≤ 1

module _ (s : List ℕ) (p e : ℕ) where
  abbrev first : ℕ
  first = first_line s p e

  abbrev gap-lines : ℕ
  gap-lines = blanks (lines_in s p e)

  -- as the code finds it
  module _ (q k : ℕ) (at_first : q ≡ first) (lines : k ≡ gap-lines) where
    pub next-end : e ≤ q → None ≡ next_of s p e
    unfolding next_of
    next-end h = rw (le-ltb first e (rw at_first at h), next_of)

    pub next-two : q < e → 1 < k → None ≡ next_of s p e
    unfolding next_of
    next-two h i = rw (lt-ltb first e (rw at_first at h), lt-leb gap-lines 1 (rw lines at i), next_of)

    pub next-line : q < e → k ≤ 1 → (b v : ℕ) → b ≡ q + length (run is_indent (part s q e)) → v ≡ width_of (part s q b)
        → Some (record { start = q; body = b; width = v; blanks = k }) ≡ next_of s p e
    unfolding next_of
    next-line h i b v j g =
        rw (g ∙ sym (width-part s q e b (indent-run s q e b j)), indent-run s q e b j, lines, at_first)
        (rw (lt-ltb first e (rw at_first at h), le-leb gap-lines 1 (rw lines at i), next_of))

  pub next-is : (n : Next) → Some n ≡ next_of s p e → IsNext s p e n.start n.body n.width n.blanks
  unfolding next_of
  next-is n h = cases (ltb first e && leb gap-lines 1)
      (λ i.
      let l = line_in s first e in
      let eq = rw (i, next_of) at h in
      let is : n ≡ record { start = first; body = first + indent l; width = width l; blanks = gap-lines } = cc in
      let start = ap (λ (x : Next). x.start) is in
      let gap = ap (λ (x : Next). x.blanks) is in
      let tests = and_yes (ltb first e) (leb gap-lines 1) i in
      record {
        start = start;
        some = rw start (ltb-true first e tests.0);
        body = rw start (ap (λ (x : Next). x.body) is);
        wide = rw start (ap (λ (x : Next). x.width) is);
        gap = gap;
        few = rw gap (leb-true gap-lines 1 tests.1);
      })
      (λ i. let eq = rw (i, next_of) at h in cc)

  pub next-none : None ≡ next_of s p e → {F : List Line → ℕ} → Gapped F → F (lines_in s p e) ≡ 0
  unfolding next_of first_line
  next-none h {F} g =
      split 1 gap-lines
      (λ i. gapped-many g (lines_in s p e) i)
      (λ i. split first e
      (λ j. let eq = rw (lt-ltb first e j, le-leb gap-lines 1 i, next_of) at h in cc)
      (λ j. gapped-none g (lines_in s p e) (ap F (sym (lines_in-drop s p e gap-lines) ∙ lines_in-nil s first e j) ∙ g.nil)))

module _ {s : List ℕ} {p e q b v k : ℕ} (next : IsNext s p e q b v k) where
  abbrev all : List Line
  all = lines_in s p e

  abbrev rest : List Line
  rest = lines_in s q e

  next-size : q ≡ p + size (take k all)
  unfolding first_line
  next-size = next.start ∙ ap (λ (m : ℕ). p + size (take m all)) (sym next.gap)

  next-lines : rest ≡ drop k all
  next-lines = ap (λ (x : ℕ). lines_in s x e) next-size ∙ lines_in-drop s p e k

  pub next-knows : (d : Bool) (m : ℕ) → Knows s p e d m → Knows s q e d m
  next-knows d m h = rw next-size (knows_more s p e d m h k)

  pub next-from : p ≤ q
  next-from = omega (arith, next-size)

  -- a scan that goes past a blank line
  module _ {F : List Line → ℕ} (g : Gapped F) where
    next-stop : (n : ℕ) → F rest ≡ 0 → line_run p n ≡ run_by F s p e n
    next-stop n h = run_by-none F s p e n (gapped-none g all (rw (next-lines, next.gap) at h))

    next-all : 0 < F rest → F all ≡ k + F rest
    next-all h = rw (next-lines, next.gap) (gapped-some g all (rw next.gap at next.few) (rw (next-lines, next.gap) at h))

    -- past m lines from there on
    next-pass : (G : List Line → ℕ) (m x n : ℕ) → 0 < m → F rest ≡ m + G (drop m rest) → x ≡ q + size (take m rest)
        → run_by G s x e (n + (k + m)) ≡ run_by F s p e n
    next-pass G m x n some h i =
        let onward : drop m rest ≡ drop (k + m) all = ap (drop m) next-lines ∙ drop-drop m k all in
        let sizes = ap (λ (y : List Line). size (take m y)) next-lines in
        run_by-pass F s p e n G (k + m) x (n + (k + m)) (omega (arith, next-all (omega arith), ap G onward))
        (omega (arith, next-size, sizes, size-take-add k m all)) refl

    next-count : (G : List Line → ℕ) (m : ℕ) → 0 < m → F rest ≡ m + G (drop m rest) → k + m ≤ F all
    next-count G m some h = omega (arith, next-all (omega arith))

  module _ (o : p ≤ e) (t : e ≤ length s) where
    abbrev line : Line
    line = line_in s q e

    abbrev after : List Line
    after = lines_in s (q + length line) e

    pub next-nonblank : blank_line line ≡ false
    next-nonblank = rw next.start (first_line-nonblank s p e o t (rw next.start at next.some))

    step : rest ≡ line ∷ after
    step = lines_in-step s q e next.some t

    pub next-later : later all ≡ line ∷ after
    next-later = rw (← next.gap) (sym next-lines ∙ step)

    -- the byte after it
    pub next-after : (x : ℕ) → x ≡ q + length line → x ≡ p + size (take (k + 1) all)
    unfolding line_in
    next-after x h =
        omega (arith, next-size, size-head_line rest, ap (λ (y : List Line). size (take 1 y)) next-lines, size-take-add k 1 all)

    pub next-few : k + 1 ≤ length all
    next-few = omega (arith, length-drop k all, ap length (sym next-lines ∙ step))

    pub next-body : b < e
    next-body = body-within s q b e next.some t next.body next-nonblank

    -- ---- an item of indentation w goes on with it

    module _ (w : ℕ) where
      pub item-stop : (n : ℕ) → v ≤ w → line_run p n ≡ run_by (item_lines w 0) s p e n
      item-stop n h =
          next-stop (item-gapped w) n
          (ap (item_lines w 0) step ∙ item_lines-out w line after next-nonblank (rw next.wide at h))

      module _ (h : w < v) (r : LineRun) (i : r ≡ together_run s q e) where
        many : r.lines ≡ together rest
        unfolding together_run run_by
        many = omega (arith, ap (λ (x : LineRun). x.lines) i)

        passed : item_lines w 0 rest ≡ r.lines + item_lines w 0 (drop r.lines rest)
        passed = rw (many, step) (item_lines-together w line after next-nonblank (rw next.wide at h))

        end : r.end ≡ q + size (take r.lines rest)
        unfolding together_run run_by
        end = rw many (ap (λ (x : LineRun). x.end) i)

        pub item-pass : (n : ℕ) → run_by (item_lines w 0) s r.end e (n + (k + r.lines)) ≡ run_by (item_lines w 0) s p e n
        item-pass n = next-pass (item-gapped w) (item_lines w 0) r.lines r.end n (omega (arith, many, together-least rest)) passed end

        pub item_count : k + r.lines ≤ item_lines w 0 all
        item_count = next-count (item-gapped w) (item_lines w 0) r.lines (omega (arith, many, together-least rest)) passed

    -- ---- a list of indentation w goes on with it

    module _ (w : ℕ) where
      pub list-stop : (n : ℕ) → (is_item line && eqb (width line) w) ≡ false → line_run p n ≡ run_by (list_lines w 0) s p e n
      list-stop n h = next-stop (list-gapped w) n (ap (list_lines w 0) step ∙ list_lines-out w line after next-nonblank h)

      module _ (h : (is_item line && eqb (width line) w) ≡ true) where
        item-passed : list_lines w 0 rest ≡ 1 + list_rest w (drop 1 rest)
        unfolding list_rest
        item-passed = rw step (omega (arith, list_lines-in w line after next-nonblank h))

        pub list-pass : (x n : ℕ) → x ≡ q + length line → run_by (list_rest w) s x e (n + (k + 1)) ≡ run_by (list_lines w 0) s p e n
        unfolding line_in
        list-pass x n i =
            next-pass (list-gapped w) (list_rest w) 1 x n (omega arith) item-passed (omega (arith, size-head_line rest))

        pub list_count : k + 1 ≤ list_lines w 0 all
        list_count = next-count (list-gapped w) (list_rest w) 1 (omega arith) item-passed

-- ---- the lines of a list of indentation w

-- past an item's further lines
module _ (s : List ℕ) (p e w : ℕ) (r : LineRun) (h : r ≡ item_run s p e w) where
  pub item-lines : r.lines ≡ item_lines w 0 (lines_in s p e)
  unfolding item_run run_by
  item-lines = omega (arith, ap (λ (x : LineRun). x.lines) h)

  item-end : r.end ≡ p + size (take r.lines (lines_in s p e))
  unfolding item_run run_by
  item-end = rw item-lines (ap (λ (x : LineRun). x.end) h)

  rest-passed : list_rest w (lines_in s p e) ≡ r.lines + list_lines w 0 (drop r.lines (lines_in s p e))
  rest-passed = rw item-lines (list_rest-pass w (lines_in s p e))

  pub item-order : p ≤ e → e ≤ length s → (p ≤ r.end) × (r.end ≤ e)
  unfolding item_run
  item-order o t = run_by-order (item_lines w 0) s p e 0 r h o t

  pub item-knows : (d : Bool) (m : ℕ) → Knows s p e d m → Knows s r.end e d m
  item-knows d m k = rw item-end (knows_more s p e d m k r.lines)

  pub list-item : (n : ℕ) → run_by (list_lines w 0) s r.end e (n + r.lines) ≡ run_by (list_rest w) s p e n
  list-item n = run_by-pass (list_rest w) s p e n (list_lines w 0) r.lines r.end (n + r.lines) rest-passed item-end refl

-- its first line
module _ (s : List ℕ) (l : LineSpan) (e w : ℕ) (h : LineOf s l e) (i : w ≡ width (line_in s l.start e)) where
  own-lines : (list_of (lines_in s l.start e)).own ≡ 1 + list_rest w (drop 1 (lines_in s l.start e))
  unfolding list_of list_rest head_line tail_lines
  own-lines = rw (line_of-lines s l e h, i) (omega arith)

  pub list-first : run_by (list_rest w) s l.end e 1 ≡ list_run s l.start e
  unfolding list_run line_in
  list-first =
      let ls = lines_in s l.start e in
      run_by-pass (λ x. (list_of x).own) s l.start e 0 (list_rest w) 1 l.end 1 own-lines (omega (arith, line_of-end s l e h, size-head_line ls)) (omega arith)

  -- what is counted is no more than the bytes
  pub list-total : (F : List Line → ℕ) (p n : ℕ) → run_by F s p e n ≡ list_run s l.start e → n + F (lines_in s p e) ≤ e
  unfolding list_run run_by list_rest
  list-total F p n g =
      let ls = lines_in s l.start e in
      let o = line_of-order s l e h in
      omega (
        arith,
        ap (λ (x : LineRun). x.lines) g,
        own-lines,
        list_lines-le w (item_lines w 0 (drop 1 ls)) (drop 1 ls),
        length-drop 1 ls,
        ap length (line_of-lines s l e h),
        lines_in-length s l.start e (omega arith) h.end,
      )

-- ---- what the rules find, by the runs

-- a list's own lines
pub list-own : (s : List ℕ) (p e : ℕ) (r : LineRun) → r ≡ list_run s p e → let ls = lines_in s p e in
    (r.lines ≡ (list_of ls).own) × (r.end ≡ p + size (take (list_of ls).own ls))
unfolding list_run run_by
list-own s p e r h = (omega (arith, ap (λ (x : LineRun). x.lines) h), ap (λ (x : LineRun). x.end) h)

-- an item's, by those after its first
pub item-own : (s : List ℕ) (l : LineSpan) (e w : ℕ) (r : LineRun) → LineOf s l e → w ≡ width (line_in s l.start e) → r ≡ item_run s l.end e w
    → let ls = lines_in s l.start e in (r.lines + 1 ≡ (item ls).own) × (r.end ≡ l.start + size (take (item ls).own ls))
unfolding item_run run_by item head_line tail_lines size
item-own s l e w r h i j =
    let step = line_of-lines s l e h in
    let lines = ap (λ (x : LineRun). x.lines) j in
    let end = ap (λ (x : LineRun). x.end) j in
    (rw (step, ← i) (omega arith), rw (step, ← i) (omega (arith, line_of-end s l e h)))

-- ---- counts

-- what is counted is no more than the bytes
pub item-total : (s : List ℕ) (a e w p n : ℕ) → a ≤ e → e ≤ length s → run_by (item_lines w 0) s p e n ≡ item_run s a e w
    → n + item_lines w 0 (lines_in s p e) ≤ e
unfolding item_run run_by
item-total s a e w p n o t h =
    omega (arith, ap (λ (x : LineRun). x.lines) h, item_lines-le w 0 (lines_in s a e), lines_in-length s a e o t)

-- what stands or falls with a line has a byte at least
pub together-order : (s : List ℕ) (q e : ℕ) (r : LineRun) → q < e → e ≤ length s → r ≡ together_run s q e → (q < r.end) × (r.end ≤ e)
unfolding together_run run_by
together-order s q e r o t h =
    let ls = lines_in s q e in
    let g = ap (λ (x : LineRun). x.end) h in
    let some = some-lines_in s q e (omega arith) t (together ls) o (omega (arith, together-least ls)) in
    let most = within-lines_in s q e (omega arith) t (together ls) in
    (omega arith, omega arith)
