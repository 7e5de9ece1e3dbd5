use Rattle.std.proofs.Common.{rules, ◌≡◌, ◌∷◌, ◌∙◌, [], length, refl, ap, inl, inr, arith}
use Rattle.std.proofs.lemmas.Result.{err_from_is_err_and}
use Rattle.vclock.specs.declared.format.Format.{Format}
use Rattle.tree_nodes.specs.Nodes.{tree_depth}
use Rattle.hash_tree.specs.Texts.{leaf_byte}
use Rattle.sync_session.specs.Walks.{IsCanonical}
use Rattle.sync_session.proofs.NewsLaws.{way_begins}
use Rattle.sync_session.proofs.ReadingLaws.{spelled_text}
use Rattle.sync_session.proofs.session.Session.begin_news.Goals as goal

pub returns-in_err-expects : goal.returns-in_err-expects
returns-in_err-expects c =
    let p = err_from_is_err_and c.from_residual.result c.from_residual.ensures.1 in
    rw (p.1, p.2) c.in_err-expects.ensures

pub returns-in-Some : goal.returns-in-Some
returns-in-Some c =
    let m = c.args.self.now.own in
    let n = c.args.node in
    let body = c.in-Some.body.now in
    let format : c.format-format.result ≡ m.format = search rules in
    let deep : c.args.node.depth ≡ tree_depth m.format = search rules in
    let whole : c.args.text.now ≡ leaf_byte c.format-format.result ∷ body = cc (c.text.ensures, c.in-Some.ensures, c.leaf_byte.ensures) in
    let text : c.args.text.now ≡ leaf_byte m.format ∷ body = whole ∙ ap (λ (f : Format). leaf_byte f ∷ body) format in
    let short = c.text.type_inv.0 in (
      c.in_ok-expects.ensures,
      deep,
      record {
        body = body;
        short = omega (arith, short, ap length c.in-Some.ensures);
        text_is = text;
        way = way_begins m n c.args.text.now body [] 0 (leaf_byte m.format) m.format refl refl text refl refl;
      },
    )

pub returns-in-None : goal.returns-in-None
returns-in-None c =
    let m = c.args.self.now.own in
    let n = c.args.node in
    let format : c.format-format.result ≡ m.format = search rules in
    let deep : c.args.node.depth ≡ tree_depth m.format = search rules in
    let other : IsCanonical m n c.args.text.now → ⊥ = λ can. elim can [
      | inl inner ↦ omega (arith, inner.0, deep)
      | inr leaf ↦ c.in-None.ensures _
          (c.text.ensures ∙ (spelled_text m n c.args.text.now leaf.1.0 c.format-format.result c.leaf_byte.result leaf.1.1 format
          c.leaf_byte.ensures).1)
    ] in
    ((c.in_ok-expects.ensures, other), λ same. cc)
