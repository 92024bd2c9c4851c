-- The order of choosing is a total order, in which only what is equal ties.
use Rattle.std.specs.Prelude.{◌≡◌, Some, None}
use Rattle.std.proofs.Common.{refl, sym, ap, ◌∙◌}
use Rattle.std.proofs.lemmas.Cmp.{on_total, then_total, nat_cmp_total, int_cmp_total}
use Rattle.std.proofs.lemmas.Cmp.{nat_list_cmp_total, tied_itself}
use Rattle.std.specs.declared.cmp.Ordering.{Ordering}
use Rattle.std.specs.declared.cmp.Ordering.TheVariants.{Less, Equal}
use Rattle.std.specs.Ordering.{nat_cmp, int_cmp, ordering_then}
use Rattle.std.specs.Option.{option_cmp}
use Rattle.std.specs.Cmp.{IsTotalOrder, nat_cmp_is, int_cmp_is}
use Rattle.std.specs.Cmp.Lexicographic.{options_total}
use Rattle.std.specs.FinMap.{IsAntisymmetric, nat_cmp-IsAntisymmetric, int_cmp-IsAntisymmetric}
use Rattle.std.specs.FinMap.{slice_cmp-IsAntisymmetric}
use Rattle.cdf_types.specs.SnapshotKind.{snapshot_kind_rank}
use Rattle.cdf_parts.specs.Parts.{id_of}
use Rattle.cdf_typed.specs.Typed.{kind_of, moment_of, snapshot_of}
use Rattle.cvr_fact_types.specs.declared.snapshot.SnapshotFact.{SnapshotFact}
use Rattle.cvr_fact_types.specs.Facts.{text_cmp}
use Rattle.cvr_facts.specs.Choosing.{data_of, choice_cmp, fact_choice, snapshot_bodies}
use Rattle.cvr_facts.specs.Sums.{sums_in}
use Rattle.cvr_facts.specs.Laws.{ChoosingLaw, EqualLaw, RankLaw, UndatedLaw, EarlierLaw, BytesLaw}
use Rattle.cvr_facts.specs.Laws.{BodiesLaw, ExactLaw, CurrentLaw, OneCurrentLaw}
use Rattle.cvr_facts.proofs.Greatest.{one_greatest, greatest_iff, has_greatest}
use Rattle.cvr_facts.proofs.Gathering.{tied}

-- ---- parts of an order

then_equal : (r s : Ordering) → r ≡ Equal → s ≡ Equal → ordering_then r s ≡ Equal
then_equal r s p q = ap (λ x. ordering_then x s) p ∙ q

pub text_total : IsTotalOrder text_cmp
text_total = nat_list_cmp_total

pub text_exact : IsAntisymmetric text_cmp
text_exact = slice_cmp-IsAntisymmetric nat_cmp-IsAntisymmetric

moment_exact : IsAntisymmetric (option_cmp int_cmp)
moment_exact None None e = refl
moment_exact None (Some y) e = Prim.cc e
moment_exact (Some x) None e = Prim.cc e
moment_exact (Some x) (Some y) e = ap Some (int_cmp-IsAntisymmetric x y e)

-- ---- the order of choosing

pub choice_total : IsTotalOrder choice_cmp
choice_total =
    then_total
    (then_total (on_total (λ b. snapshot_kind_rank (kind_of (data_of b))) nat_cmp_total)
    (on_total (λ b. moment_of (data_of b)) (options_total int_cmp_total)))
    text_total

-- its last part is the body itself
pub choice_exact : IsAntisymmetric choice_cmp
choice_exact a b e = text_exact a b (tied _ _ e).1

pub fact_total : ChoosingLaw
fact_total =
    then_total
    (then_total (on_total (λ a. snapshot_kind_rank a.kind) nat_cmp_total)
    (on_total (λ a. a.moment) (options_total int_cmp_total)))
    (on_total (λ a. a.body) text_total)

module _ (a b : SnapshotFact) where
  ranks_equal : fact_choice a b ≡ Equal → snapshot_kind_rank a.kind ≡ snapshot_kind_rank b.kind
  ranks_equal e = nat_cmp-IsAntisymmetric _ _ (tied _ _ (tied _ _ e).0).0

  moments_equal : fact_choice a b ≡ Equal → a.moment ≡ b.moment
  moments_equal e = moment_exact _ _ (tied _ _ (tied _ _ e).0).1

  bodies_equal : fact_choice a b ≡ Equal → a.body ≡ b.body
  bodies_equal e = text_exact _ _ (tied _ _ e).1

  all_tied : snapshot_kind_rank a.kind ≡ snapshot_kind_rank b.kind → a.moment ≡ b.moment
      → a.body ≡ b.body → fact_choice a b ≡ Equal
  all_tied rank moment body =
      then_equal _ _
      (then_equal _ _ (ap (nat_cmp (snapshot_kind_rank a.kind)) (sym rank)
      ∙ tied_itself nat_cmp_total (snapshot_kind_rank a.kind))
      (ap (option_cmp int_cmp a.moment) (sym moment)
      ∙ tied_itself (options_total int_cmp_total) a.moment))
      (ap (text_cmp a.body) (sym body) ∙ tied_itself text_total a.body)

pub equal : EqualLaw
equal a b = (
  λ e. (ranks_equal a b e, moments_equal a b e, bodies_equal a b e),
  λ h.
      all_tied a b h.0 h.1 h.2,
)

pub rank : RankLaw
rank a b lower =
    ap (λ r. ordering_then (ordering_then r (option_cmp int_cmp a.moment b.moment))
    (text_cmp a.body b.body))
    (sym (nat_cmp_is (snapshot_kind_rank a.kind) (snapshot_kind_rank b.kind) Less lower))

-- of one kind, the moments decide first
of_one_kind : (a b : SnapshotFact) → a.kind ≡ b.kind
    → fact_choice a b ≡ ordering_then (option_cmp int_cmp a.moment b.moment)
    (text_cmp a.body b.body)
of_one_kind a b kind =
    let ranks : nat_cmp (snapshot_kind_rank a.kind) (snapshot_kind_rank b.kind) ≡ Equal =
    ap (λ k. nat_cmp (snapshot_kind_rank a.kind) (snapshot_kind_rank k)) (sym kind)
    ∙ tied_itself nat_cmp_total (snapshot_kind_rank a.kind) in
    ap (λ r. ordering_then (ordering_then r (option_cmp int_cmp a.moment b.moment))
    (text_cmp a.body b.body)) ranks

pub undated : UndatedLaw
undated a b m kind none some = of_one_kind a b kind
    ∙ (λ i. ordering_then (option_cmp int_cmp (none i) (some i)) (text_cmp a.body b.body))

pub earlier : EarlierLaw
earlier a b m n kind one other less =
    of_one_kind a b kind
    ∙ ((λ i. ordering_then (option_cmp int_cmp (one i) (other i)) (text_cmp a.body b.body))
    ∙ ap (λ r. ordering_then r (text_cmp a.body b.body)) (sym (int_cmp_is m n Less less)))

pub bytes : BytesLaw
bytes a b kind moment =
    let tied : option_cmp int_cmp a.moment b.moment
    ≡ Equal = ap (option_cmp int_cmp a.moment) (sym moment)
    ∙ tied_itself (options_total int_cmp_total) a.moment in
    of_one_kind a b kind ∙ ap (λ r. ordering_then r (text_cmp a.body b.body)) tied

pub bodies : BodiesLaw
bodies contests a b sa sb = rw (sa.kind, sa.moment, sb.kind, sb.moment) refl

pub exact : ExactLaw
exact contests a b sa sb key e =
    let body = bodies_equal a b e in
    let id : a.id ≡ b.id = sa.id ∙ (ap (λ x. id_of (data_of x)) body ∙ sym sb.id) in
    let kind : a.kind ≡ b.kind = sa.kind ∙ (ap (λ x. kind_of (data_of x)) body ∙ sym sb.kind) in
    let votes : a.votes ≡ b.votes = sa.votes
    ∙ (ap (λ x. sums_in contests (snapshot_of contests (data_of x)).contests) body
    ∙ sym sb.votes) in
    let moment = moments_equal a b e in
    λ i. record {
      key = key i;
      id = id i;
      kind = kind i;
      moment = moment i;
      votes = votes i;
      body = body i;
    }

-- ---- the current snapshot

pub current : CurrentLaw
current s key body = greatest_iff choice_total choice_exact (snapshot_bodies s key) body

pub one_current : OneCurrentLaw
one_current s key some =
    let found = has_greatest choice_total (snapshot_bodies s key) some in (
      found.0,
      found.1,
      λ other is. one_greatest choice_total choice_exact (snapshot_bodies s key)
          other found.0 is found.1,
    )
