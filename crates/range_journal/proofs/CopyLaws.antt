-- What stays where partners' entries are told as copies.
use Rattle.std.proofs.Common.{◌≡◌, ℕ, zero, suc, ◌+◌, ◌<◌, ◌≤◌, Bool, true, false, cond, List, [], ◌∷◌, ◌++◌, length, map, take, drop, set, get_or}
use Rattle.std.proofs.Common.{refl, sym, ap, subst, ◌∙◌, arith}
use Rattle.std.specs.Prelude.{nat_eq}
use Rattle.std.specs.Cmp.Lexicographic.{pointwise}
use Rattle.std.proofs.lemmas.List.{length-map}
use Rattle.version_set.specs.declared.version.Version.{Version}
use Rattle.version_set.specs.Version.{covered, maximal, set_from}
use Rattle.range_journal.specs.declared.journal.Entry.{Entry}
use Rattle.range_journal.specs.declared.journal.Source.{Source}
use Rattle.range_journal.specs.declared.journal.Source.TheVariants.{Client, Copy, Hint, Partner}
use Rattle.range_journal.specs.Log.{Log, IsLog, AreNumberedFrom}
use Rattle.range_journal.specs.Journal.{versions_of, accepted, held, NeverCrowded, AreNewsAfter, AreNews}
use Rattle.range_journal.specs.Copies.{copy_for, as_copy, as_copies, with_copies, NoneIsPartners, IsSettled}

-- ---- a list whose first elements were changed

-- it has the next one as it was
next_is : {X : Type 0} (f : X → X) (xs : List X) (i : ℕ) (d : X) → i < length xs → get_or (map f (take i xs) ++ drop i xs) i d ≡ get_or xs i d
next_is f [] i d lt = absurd (omega arith)
next_is f (x ∷ xs) zero d lt = refl
next_is f (x ∷ xs) (suc i) d lt = next_is f xs i d (omega arith)

-- and so has one more changed with that
next_set : {X : Type 0} (f : X → X) (xs : List X) (i : ℕ) (d : X) → i < length xs
    → set (map f (take i xs) ++ drop i xs) i (f (get_or xs i d)) ≡ map f (take (suc i) xs) ++ drop (suc i) xs
next_set f [] i d lt = absurd (omega arith)
next_set f (x ∷ xs) zero d lt = refl
next_set f (x ∷ xs) (suc i) d lt = ap (λ ys. f x ∷ ys) (next_set f xs i d (omega arith))

-- the next element of a loop is changed
pub next_changed : {X : Type 0} (f : X → X) (xs items : List X) (i : ℕ) (d new : X) → i < length xs → items ≡ map f (take i xs) ++ drop i xs
    → new ≡ f (get_or items i d) → set items i new ≡ map f (take (i + 1) xs) ++ drop (i + 1) xs
next_changed f xs items i d new lt are ended =
    let was : get_or items i d ≡ get_or xs i d = ap (λ ys. get_or ys i d) are ∙ next_is f xs i d lt in
    let more : suc i ≡ i + 1 = omega arith in
    (λ j. set (are j) i ((ended ∙ ap f was) j)) ∙ next_set f xs i d lt ∙ ap (λ n. map f (take n xs) ++ drop n xs) more

-- a loop has changed all elements
pub all_changed : {X : Type 0} (f : X → X) (xs items : List X) (i : ℕ) → i ≡ length xs → items ≡ map f (take i xs) ++ drop i xs → items ≡ map f xs
all_changed f xs items i all are = are ∙ ap (λ n. map f (take n xs) ++ drop n xs) all ∙ whole f xs
  where
    whole : {X : Type 0} (f : X → X) (xs : List X) → map f (take (length xs) xs) ++ drop (length xs) xs ≡ map f xs
    whole f [] = refl
    whole f (x ∷ xs) = ap (λ ys. f x ∷ ys) (whole f xs)

-- ---- entries that are copies already

same_source : (x : Source) → ¬ (x ≡ Partner) → copy_for x ≡ x
same_source Client other = refl
same_source Copy other = refl
same_source Hint other = refl
same_source Partner other = absurd (other refl)

copies_already : (es : List Entry) → NoneIsPartners es → as_copies es ≡ es
copies_already [] none = refl
copies_already (e ∷ es) none = λ i. record e { source = same_source e.source none.0 i } ∷ copies_already es none.1 i

take_drop : {X : Type 0} (n : ℕ) (xs : List X) → take n xs ++ drop n xs ≡ xs
take_drop zero xs = refl
take_drop (suc n) [] = refl
take_drop (suc n) (x ∷ xs) = ap (λ ys. x ∷ ys) (take_drop n xs)

-- the beginning of the loop
pub begun : (n : ℕ) (es : List Entry) → IsSettled n es → es ≡ map as_copy (take n es) ++ drop n es
begun n es settled = sym (ap (λ xs. xs ++ drop n es) (copies_already (take n es) settled.others) ∙ take_drop n es)

-- ---- the journal's facts

pub copies_numbered : (n : ℕ) (es : List Entry) → AreNumberedFrom n es → AreNumberedFrom n (as_copies es)
copies_numbered n [] are = tt
copies_numbered n (e ∷ es) are = (are.0, copies_numbered (n + 1) es are.1)

pub copies_log : (log : Log) → IsLog log → IsLog (with_copies log)
copies_log log is = record {
  numbered = copies_numbered 0 log.entries is.numbered;
  within = omega (arith, is.within, length-map log.entries as_copy);
  small = is.small;
}

pub copies_versions : (es : List Entry) (key : List ℕ) → versions_of (as_copies es) key ≡ versions_of es key
copies_versions [] key = refl
copies_versions (e ∷ es) key = ap (λ vs. cond (pointwise nat_eq e.key key) (e.version ∷ vs) vs) (copies_versions es key)

pub copies_accepted : (es : List Entry) (key : List ℕ) → accepted (as_copies es) key ≡ accepted es key
copies_accepted es key = ap (set_from []) (copies_versions es key)

pub copies_held : (es : List Entry) (key : List ℕ) → held (as_copies es) key ≡ held es key
copies_held es key = ap maximal (copies_accepted es key)

pub copies_taken : (n : ℕ) (es : List Entry) → take n (as_copies es) ≡ as_copies (take n es)
copies_taken zero es = refl
copies_taken (suc n) [] = refl
copies_taken (suc n) (e ∷ es) = ap (λ xs. as_copy e ∷ xs) (copies_taken n es)

pub copies_never_crowded : (es : List Entry) (key : List ℕ) → NeverCrowded es key → NeverCrowded (as_copies es) key
copies_never_crowded es key never = λ n. omega (arith, never n, ap length (ap (λ xs. held xs key) (copies_taken n es) ∙ copies_held (take n es) key))

news_after : (before others es : List Entry) → ((key : List ℕ) → versions_of others key ≡ versions_of before key) → AreNewsAfter before es
    → AreNewsAfter others (as_copies es)
news_after before others [] same news = tt
news_after before others (e ∷ es) same news = (
  ap (covered e.version) (same e.key)
      ∙ news.0,
  news_after (before ++ e ∷ []) (others ++ as_copy e ∷ []) es
      (λ key. one_more others (as_copy e) key ∙ ap (λ vs. vs ++ versions_of (e ∷ []) key) (same key) ∙ sym (one_more before e key)) news.1,
)
  where
    inside : (b : Bool) (v : Version) (vs ws : List Version) → cond b (v ∷ (vs ++ ws)) (vs ++ ws) ≡ cond b (v ∷ vs) vs ++ ws
    inside true v vs ws = refl
    inside false v vs ws = refl

    one_more : (xs : List Entry) (y : Entry) (key : List ℕ) → versions_of (xs ++ y ∷ []) key ≡ versions_of xs key ++ versions_of (y ∷ []) key
    one_more [] y key = refl
    one_more (x ∷ xs) y key = ap (λ vs. cond (pointwise nat_eq x.key key) (x.version ∷ vs) vs) (one_more xs y key)
        ∙ inside (pointwise nat_eq x.key key) x.version (versions_of xs key) (versions_of (y ∷ []) key)

pub copies_news : (es : List Entry) → AreNews es → AreNews (as_copies es)
copies_news es news = news_after [] [] es (λ key. refl) news

-- ---- none is a partner's

not_partners : (x : Source) → ¬ (copy_for x ≡ Partner)
not_partners Client = λ is. let clash : Client ≡ Partner = is in cc
not_partners Copy = λ is. let clash : Copy ≡ Partner = is in cc
not_partners Hint = λ is. let clash : Hint ≡ Partner = is in cc
not_partners Partner = λ is. let clash : Copy ≡ Partner = is in cc

pub copies_others : (es : List Entry) → NoneIsPartners (as_copies es)
copies_others [] = tt
copies_others (e ∷ es) = (not_partners e.source, copies_others es)

first_others : (n : ℕ) (es : List Entry) → NoneIsPartners es → NoneIsPartners (take n es)
first_others zero es none = tt
first_others (suc n) [] none = tt
first_others (suc n) (e ∷ es) none = (none.0, first_others n es none.1)

-- all copies are settled
pub copies_settled : (es : List Entry) → IsSettled (length es) (as_copies es)
copies_settled es = record { within = omega (arith, length-map es as_copy); others = first_others (length es) (as_copies es) (copies_others es) }

-- what is settled stays so while entries are added
pub settled_grows : (n : ℕ) (es more : List Entry) → IsSettled n es → IsSettled n (es ++ more)
settled_grows n es more settled =
    record { within = longer n es more settled.within; others = subst NoneIsPartners (first n es more settled.within) settled.others }
  where
    longer : (n : ℕ) (xs ys : List Entry) → n ≤ length xs → n ≤ length (xs ++ ys)
    longer zero xs ys h = omega arith
    longer (suc n) [] ys h = absurd (omega arith)
    longer (suc n) (x ∷ xs) ys h = omega (arith, longer n xs ys (omega (arith, h)))

    first : (n : ℕ) (xs ys : List Entry) → n ≤ length xs → take n xs ≡ take n (xs ++ ys)
    first zero xs ys h = refl
    first (suc n) [] ys h = absurd (omega arith)
    first (suc n) (x ∷ xs) ys h = ap (λ zs. x ∷ zs) (first n xs ys (omega (arith, h)))
