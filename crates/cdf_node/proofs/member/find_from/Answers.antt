-- Passing a member (`place`) loses neither the value sought nor one at a name behind it; where
-- members `rise`, one that stands behind the name shows that there is none.
use Rattle.std.proofs.Common.{◌≡◌, get_or, true, false, bytes_eq, is_lt, Some, Greater, nat_cmp}
use Rattle.std.proofs.Common.{Less, subst}
use Rattle.std.specs.Bool.{OnTrue}
use Rattle.cdf_node.specs.Order.{Rises}
use Rattle.std.proofs.Common.{sym, ap, ◌∙◌}
use Rattle.std.specs.Cmp.Lexicographic.{slice_cmp}
use Rattle.cdf_node.specs.View.{view, members_view}
use Rattle.cdf_node.proofs.Found.{absent, after, behind, less, further, met, passed}
use Rattle.cdf_node.proofs.Views.{Entry}
use Rattle.cdf_node.proofs.member.find_from.Goals as goal

pub returns-then-eq-clause-value : goal.returns-then-eq-clause-value
returns-then-eq-clause-value c =
    let ms = c.args.members.now in
    let i = c.loop-place.place in
    let m = c.index-members-place.result in
    let is : m ≡ get_or ms i m = c.index-members-place.is in
    let same : bytes_eq c.args.name.now (get_or ms i m).0.now ≡ true =
    rw (← is) (sym c.eq.ensures ∙ c.if-eq.true) in
    ap (λ (e : Entry). Some (view e.1)) is
    ∙ sym (met c.args.name.now ms i m c.loop-place-test.true same)
    ∙ c.loop-place.invariant.value

pub returns-then-eq-clause-left : goal.returns-then-eq-clause-left
returns-then-eq-clause-left c = λ q b.
    let ms = c.args.members.now in
    let i = c.loop-place.place in
    let m = c.index-members-place.result in
    let is : m ≡ get_or ms i m = c.index-members-place.is in
    let same : bytes_eq c.args.name.now (get_or ms i m).0.now ≡ true =
    rw (← is) (sym c.eq.ensures ∙ c.if-eq.true) in
    let later = after q c.args.name.now (get_or ms i m).0.now same b in
    sym (passed q ms i m c.loop-place-test.true later) ∙ c.loop-place.invariant.left q b

pub returns-then-rise-clause-value : goal.returns-then-rise-clause-value
returns-then-rise-clause-value c =
    let ms = c.args.members.now in
    let k = c.args.name.now in
    let i = c.loop-place.place in
    let m = c.index-members-place.result in
    let is : m ≡ get_or ms i m = c.index-members-place.is in
    let before : slice_cmp nat_cmp k m.0.now ≡ Less =
    less (slice_cmp nat_cmp k m.0.now)
    (sym (ap is_lt c.compare.ensures) ∙ sym c.is_lt.ensures ∙ c.if-is_lt.true) in
    let first : slice_cmp nat_cmp k (get_or ms i m).0.now ≡ Less = rw (← is) before in
    sym (absent k ms i m (subst (λ b. OnTrue b (Rises (members_view ms))) c.if-rise.true c.requires.rise) c.loop-place-test.true first)
    ∙ c.loop-place.invariant.value

pub loop-place-preserved : goal.loop-place-preserved
loop-place-preserved c =
    let ms = c.args.members.now in
    let k = c.args.name.now in
    let i = c.loop-place.place in
    let m = c.index-members-place.result in
    let is : m ≡ get_or ms i m = c.index-members-place.is in
    let lt : is_lt (slice_cmp nat_cmp k m.0.now) ≡ false =
    sym (ap is_lt c.compare.ensures) ∙ sym c.is_lt.ensures ∙ c.if-is_lt.false in
    let past : slice_cmp nat_cmp k m.0.now ≡ Greater =
    behind k m.0.now lt (sym c.eq.ensures ∙ c.if-eq.false) in
    let g : slice_cmp nat_cmp k (get_or ms i m).0.now ≡ Greater = rw (← is) past in
    record {
      value = sym (passed k ms i m c.loop-place-test.true g) ∙ c.loop-place.invariant.value;
      left = λ q b.
          sym (passed q ms i m c.loop-place-test.true (further q k (get_or ms i m).0.now g b))
          ∙ c.loop-place.invariant.left q b;
    }
