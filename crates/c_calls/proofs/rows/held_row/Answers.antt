use Rattle.std.proofs.Common.{◌≡◌, ◌≤◌, true≢false, None, List, [], ◌∷◌, length, refl, sym, subst, ◌∙◌, arith}
use Rattle.std.specs.List.{AllByRecursion}
use Rattle.version_set.specs.Kind.{value_fault}
use Rattle.version_set.specs.declared.version.Version.{Version}
use Rattle.c_calls.proofs.rows.held_row.Goals as goal

-- versions that are not none are some
some : (vs : List Version) → (vs ≡ [] → ⊥) → 1 ≤ length vs
some [] not = absurd (not refl)
some (v ∷ vs) not = omega arith

pub write_held-requires : goal.write_held-requires
write_held-requires c =
    let set = c.in-Some.set.now in
    record {
      key = c.requires.key;
      some = some set (λ none. true≢false (sym (c.is_empty.ensures.1 none) ∙ c.if-is_empty.false));
      each = subst (AllByRecursion (λ (v : Version). value_fault c.args.format v.kind v.value ≡ None)) (sym c.in-Some.ensures) c.requires.fit;
    }
