-- Maps of sets, whose keys are bytes.
use Rattle.std.proofs.Common.{◌≡◌, ℕ, true, false, cond, List, [], Some, sym, ap, ◌∙◌, inl, inr}
use Rattle.std.specs.Prelude.{bytes_eq, unwrap_or}
use Rattle.std.specs.Map.{lookup, KeepsOthers}
use Rattle.std.specs.HashMap.{HashMap}
use Rattle.std.specs.Cmp.Lexicographic.{nat_list_eq_equiv}
use Rattle.std.proofs.lemmas.Bool.{cases_Bool, cond-true, cond-false}
use Rattle.std.proofs.lemmas.Slice.Eq.{bytes_eq-Decides}
use Rattle.version_set.specs.declared.version.Version.{Version}
use Rattle.version_set.specs.Version.{offered}
use Rattle.range_journal.specs.Replays.{set_at}

-- keys that differ aren't both equal to a third
apart : (bs cs ks : List ℕ) → bytes_eq bs cs ≡ false → bytes_eq bs ks ≡ true → bytes_eq cs ks ≡ false
apart bs cs ks other same = nat_list_eq_equiv.symm cs ks ∙ sym (nat_list_eq_equiv.congr bs ks cs same) ∙ other

-- a set was put at a key
put_at : {K : Type 0} (bytes : K → List ℕ) (bs : List ℕ) (w : List Version) (old new : List (K × List Version))
    → lookup (λ k. bytes_eq bs (bytes k)) new ≡ Some w
    → KeepsOthers (λ j k. bytes_eq (bytes j) (bytes k)) (λ k. bytes_eq bs (bytes k)) old new
    → (cs : List ℕ) → unwrap_or (lookup (λ k. bytes_eq cs (bytes k)) new) [] ≡ cond (bytes_eq bs cs) w
    (unwrap_or (lookup (λ k. bytes_eq cs (bytes k)) old) [])
unfolding KeepsOthers
put_at bytes bs w old new here others cs = elim (cases_Bool (bytes_eq bs cs)) [
  | inl same ↦
      ap (λ l. unwrap_or (lookup (λ k. bytes_eq l (bytes k)) new) []) (sym ((bytes_eq-Decides bs cs).0 same))
      ∙ ap (λ o. unwrap_or o []) here
      ∙ sym (cond-true (bytes_eq bs cs) w (unwrap_or (lookup (λ k. bytes_eq cs (bytes k)) old) []) same)
  | inr other ↦
      ap (λ o. unwrap_or o [])
      (others (λ k. bytes_eq cs (bytes k)) (λ j k. nat_list_eq_equiv.congr cs (bytes j) (bytes k)) (λ k. apart bs cs (bytes k) other))
      ∙ sym (cond-false (bytes_eq bs cs) w (unwrap_or (lookup (λ k. bytes_eq cs (bytes k)) old) []) other)
]

-- what was put at a key, where sets are looked up
module _ {K S : Type 0} (bytes : K → List ℕ) (bs : List ℕ) (w : List Version) (old new : HashMap K (List Version) S)
    (here : lookup (λ k. bytes_eq bs (bytes k)) new.entries ≡ Some w)
    (others : KeepsOthers (λ j k. bytes_eq (bytes j) (bytes k)) (λ k. bytes_eq bs (bytes k)) old.entries new.entries) where
  -- the set that was there: all sets are as before
  pub kept : w ≡ set_at bytes old bs → (cs : List ℕ) → set_at bytes new cs ≡ set_at bytes old cs
  kept was cs = put_at bytes bs w old.entries new.entries here others cs ∙ elim (cases_Bool (bytes_eq bs cs)) [
    | inl same ↦ cond-true (bytes_eq bs cs) w (set_at bytes old cs) same ∙ was ∙ ap (set_at bytes old) ((bytes_eq-Decides bs cs).0 same)
    | inr other ↦ cond-false (bytes_eq bs cs) w (set_at bytes old cs) other
  ]

  -- the set after an offer
  pub took : (v : Version) → w ≡ offered v (set_at bytes old bs) → (cs : List ℕ)
      → set_at bytes new cs ≡ cond (bytes_eq bs cs) (offered v (set_at bytes old cs)) (set_at bytes old cs)
  took v now cs = put_at bytes bs w old.entries new.entries here others cs ∙ elim (cases_Bool (bytes_eq bs cs)) [
    | inl same ↦ ap (λ x. cond (bytes_eq bs cs) x (set_at bytes old cs))
        (now ∙ ap (λ l. offered v (set_at bytes old l)) ((bytes_eq-Decides bs cs).0 same))
    | inr other ↦ cond-false (bytes_eq bs cs) w (set_at bytes old cs) other
        ∙ sym (cond-false (bytes_eq bs cs) (offered v (set_at bytes old cs)) (set_at bytes old cs) other)
  ]
