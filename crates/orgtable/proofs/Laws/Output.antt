-- What a writer holds after one write and after many. Assumes nothing.
use mathlib.Core.Path.{◌∙◌, ap}
use mathlib.Core.List.{List, [], ◌++◌, append_assoc, append-nil}
use Prim.Native.Nat.{ℕ, ◌+◌, ◌-◌, ◌≤◌, ◌<◌}
use lib.ListN.{length, take, drop}
use lib.Seq.{take_all, take-take, take-add}
use Rattle.std.specs.Prelude.{Ok, Err, Some, None}
use Rattle.std.specs.Io.KnownBytes.{Keeps, Appends}
use Rattle.std.specs.declared.option.Option.{Option}
use Rattle.orgtable.specs.declared.trouble.Trouble.TheVariants.{Unwritten}
use Rattle.orgtable.specs.Output.{IsPrinted}
use Rattle.orgtable.proofs.Laws.Input.{length-rest}

appends-both : (a b c : Option (List ℕ)) (xs ys : List ℕ) → Appends a b xs → Appends b c ys → Appends a c (xs ++ ys)
appends-both None b c xs ys p q = tt
appends-both (Some a) None c xs ys p q = absurd p
appends-both (Some a) (Some b) None xs ys p q = absurd q
appends-both (Some a) (Some b) (Some c) xs ys p q = q ∙ ap (λ l. l ++ ys) p ∙ append_assoc a xs ys

-- A write after i bytes, of n of those that follow them.
pub appends-more : (a b c : Option (List ℕ)) (i n : ℕ) (bs : List ℕ) → n ≤ length (take (length bs - i) (drop i bs)) → Appends a b (take i bs)
    → Appends b c (take n (take (length bs - i) (drop i bs))) → Appends a c (take (i + n) bs)
appends-more a b c i n bs few p q =
    let within = rw (length-rest bs i) at few in
    let r = rw (take-take n (length bs - i) (drop i bs) within) at q in
    rw (take-add i n bs) (appends-both a b c (take i bs) (take n (drop i bs)) p r)

-- No bytes more.
appends-none : (a b c : Option (List ℕ)) (xs : List ℕ) → Appends a b xs → Keeps b c → Appends a c xs
appends-none None b c xs p q = tt
appends-none (Some a) None c xs p q = absurd p
appends-none (Some a) (Some b) None xs p q = absurd q
appends-none (Some a) (Some b) (Some c) xs p q = q ∙ p

-- A write that failed, or took nothing, after i bytes.
pub stopped : (a b c : Option (List ℕ)) (i : ℕ) (bs : List ℕ) → i < length bs → Appends a b (take i bs) → Keeps b c → IsPrinted (Err Unwritten) a c bs
unfolding IsPrinted
stopped a b c i bs h p q = (i, h, appends-none a b c (take i bs) p q)

-- A write of nothing.
pub keeps-nothing : (a b : Option (List ℕ)) → Appends a b [] → Keeps a b
keeps-nothing None b p = tt
keeps-nothing (Some a) None p = absurd p
keeps-nothing (Some a) (Some b) p = p ∙ append-nil a

-- All of the bytes.
pub whole : (a b : Option (List ℕ)) (i : ℕ) (bs : List ℕ) → length bs ≤ i → Appends a b (take i bs) → IsPrinted (Ok tt) a b bs
unfolding IsPrinted
whole a b i bs h p = rw (take_all i bs h) at p
