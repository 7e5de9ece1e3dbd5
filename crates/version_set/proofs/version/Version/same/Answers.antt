use Rattle.std.proofs.Common.{◌≡◌, sym, ap, ◌∙◌, subst}
use Rattle.std.specs.Ordering.{is_eq}
use Rattle.std.specs.declared.cmp.Ordering.TheVariants.{Equal}
use Rattle.std.proofs.lemmas.Cmp.{tied_itself}
use Rattle.version_set.specs.Version.{version_cmp, is_same}
use Rattle.version_set.specs.declared.version.Version.{Version}
use Rattle.version_set.proofs.SetLaws.{is_same-exact, version_total}
use Rattle.version_set.proofs.version.Version.same.Goals as goal

pub returns : goal.returns
returns c =
    let v = c.args.self.now in
    let w = c.args.other.now in
    let is : c.is_eq.result ≡ is_same v w = c.is_eq.ensures ∙ ap is_eq c.text_order.ensures.fields in
    ((λ t. is_same-exact v w (sym is ∙ t)), (λ e. is ∙ ap is_eq (subst (λ (x : Version). version_cmp v x ≡ Equal) e (tied_itself version_total v))))
