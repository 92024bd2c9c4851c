-- The same facts beside the same definition are answered alike.
use Rattle.std.proofs.Common.{◌≡◌, List, Option, Some, None, codes, refl, sym, ap, ◌∙◌, subst}
use Rattle.std.specs.Prelude.{option_map}
use Rattle.cdf_parts.specs.Parts.{id_of, text_in}
use Rattle.cdf_parts.specs.Places.{Contest}
use Rattle.cdf_typed.specs.Typed.{kind_of, moment_of, snapshot_of}
use Rattle.cdf_definition.specs.Frame.{Frame}
use Rattle.cdf_check.proofs.Laws.{same_definitions}
use Rattle.cvr_fact_types.specs.declared.name.RecordName.{RecordName}
use Rattle.cvr_fact_types.specs.declared.header.HeaderFact.{HeaderFact}
use Rattle.cvr_fact_types.specs.declared.snapshot.SnapshotFact.{SnapshotFact}
use Rattle.cvr_fact_types.specs.Facts.{Facts}
use Rattle.cvr_facts.specs.Choosing.{data_of, header, current}
use Rattle.cvr_facts.specs.Sums.{sums_in}
use Rattle.cvr_office.specs.Names.{conflicts}
use Rattle.cvr_office.specs.Readers.{IsHeaderOf, IsSnapshotOf, IsHeader, IsCurrent}
use Rattle.cvr_office.specs.Alike.{AnswerAlike, SameOfficesLaw}
use Rattle.cvr_office.specs.Tallied.{row, rows, tally}

-- ---- what is read of a body

-- two snapshots of a record with one body are one
one_snapshot : (contests : List Contest) (key : RecordName) (a b : SnapshotFact)
    → IsSnapshotOf contests key a → IsSnapshotOf contests key b → a.body ≡ b.body → a ≡ b
one_snapshot contests key a b p q body =
    let named : a.key ≡ b.key = p.key_is ∙ sym q.key_is in
    let id : a.id ≡ b.id = p.spelled.id ∙ ap (λ x. id_of (data_of x)) body ∙ sym q.spelled.id in
    let kind : a.kind ≡ b.kind =
    p.spelled.kind ∙ ap (λ x. kind_of (data_of x)) body ∙ sym q.spelled.kind in
    let moment : a.moment ≡ b.moment =
    p.spelled.moment ∙ ap (λ x. moment_of (data_of x)) body ∙ sym q.spelled.moment in
    let votes : a.votes ≡ b.votes = p.spelled.votes
    ∙ ap (λ x. sums_in contests (snapshot_of contests (data_of x)).contests) body
    ∙ sym q.spelled.votes in
    λ i. record {
      key = named i;
      id = id i;
      kind = kind i;
      moment = moment i;
      votes = votes i;
      body = body i;
    }

-- and two headers
one_header : (key : RecordName) (a b : HeaderFact) → IsHeaderOf key a → IsHeaderOf key b
    → a.body ≡ b.body → a ≡ b
one_header key a b p q body =
    let named : a.key ≡ b.key = p.key_is ∙ sym q.key_is in
    let unit : a.unit ≡ b.unit = p.spelled.unit
    ∙ ap (λ x. text_in (codes "BallotStyleUnitId") (data_of x)) body ∙ sym q.spelled.unit in
    let batch : a.batch ≡ b.batch = p.spelled.batch
    ∙ ap (λ x. text_in (codes "BatchId") (data_of x)) body ∙ sym q.spelled.batch in
    λ i. record { key = named i; unit = unit i; batch = batch i; body = body i }

-- what has one body, where there is any, is one
same_told : {X Y : Type 0} (body : X → Y) (one other : Option X)
    → ((a b : X) → one ≡ Some a → other ≡ Some b → body a ≡ body b → a ≡ b)
    → option_map body one ≡ option_map body other → one ≡ other
same_told body None None each is = refl
same_told body None (Some b) each is = Prim.cc is
same_told body (Some a) None each is = Prim.cc is
same_told body (Some a) (Some b) each is =
    let same : body a ≡ body b = Prim.cc is in ap Some (each a b refl refl same)

one_current : (contests : List Contest) (s : Facts) (key : RecordName)
    (one other : Option SnapshotFact) → IsCurrent contests s key one
    → IsCurrent contests s key other → one ≡ other
one_current contests s key one other p q =
    same_told (λ a. a.body) one other (λ a b is js.
    one_snapshot contests key a b (p.typed a is) (q.typed b js)) (p.body ∙ sym q.body)

one_header_told : (s : Facts) (key : RecordName) (one other : Option HeaderFact)
    → IsHeader s key one → IsHeader s key other → one ≡ other
one_header_told s key one other p q =
    same_told (λ a. a.body) one other (λ a b is js.
    one_header key a b (p.typed a is) (q.typed b js)) (p.body ∙ sym q.body)

-- ---- what is answered

pub answer_alike : (f g : Frame) (s t : Facts) → f.contests ≡ g.contests → s ≡ t
    → AnswerAlike f g s t
answer_alike f g s t contests same = record {
  currents = λ key. ap (λ facts. current facts key) same;
  currents_stated = λ key one other p q. one_current g.contests t key one other
      (subst (λ cs. IsCurrent cs t key one) contests
      (subst (λ facts. IsCurrent f.contests facts key one) same p)) q;
  headers = λ key. ap (λ facts. header facts key) same;
  headers_stated = λ key one other p q. one_header_told t key one other
      (subst (λ facts. IsHeader facts key one) same p) q;
  conflicts_are = ap conflicts same;
  contests_are = contests;
  row_is = λ q i. row (contests i) (same i) q;
  rows_are = λ i. rows (contests i) (same i);
  tally_is = λ i. tally (contests i) (same i);
}

pub same_offices : SameOfficesLaw
same_offices f g s t p q same held =
    answer_alike f g s t (same_definitions f g p q same).contests held
