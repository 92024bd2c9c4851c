-- Where no earlier item had the `text` of the key, the key is free, and the text counts as seen
-- from then on. The other two cases need no written proof.
use Rattle.std.proofs.Common.{◌≡◌, ℕ, List, ◌∷◌, Bool, true, false, not, ◌||◌, cond, Some, bytes_eq}
use Rattle.std.proofs.Common.{nat_cmp, refl, sym, ◌∙◌, rules}
use Rattle.std.specs.List.{list_any}
use Rattle.std.specs.Cmp.Lexicographic.{slice_cmp}
use Rattle.std.specs.BTreeSet.{BTreeSet, Updates}
use Rattle.std.proofs.lemmas.Map.Text.{is_eq-slice_cmp}
use Rattle.serde_json.specs.Data.{Data}
use Rattle.cdf_node.specs.View.{view}
use denote.Ref.{Bor}
use Rattle.cdf_form.specs.declared.table.Key.{Key}
use Rattle.cdf_form.specs.declared.table.Key.TheVariants as key
use Rattle.cdf_form.specs.Form.{key_text, mark_of}
use Rattle.cdf_form.specs.Seen.{HasTexts}
use Rattle.cdf_form.proofs.walk.note_key.Goals as goal

mark_free : (k : Key) (texts : List (List ℕ)) (d : Data) (s : List ℕ) → key_text k d ≡ Some s
    → list_any (λ t. bytes_eq t s) texts ≡ false → key.Free ≡ mark_of k texts d
mark_free k texts d s e h = rw (e, h)

or_cond : (b x : Bool) → cond b true x ≡ (b || x)
or_cond true x = refl
or_cond false x = refl

seen_more : (s n : BTreeSet (Bor (List ℕ))) (k : Bor (List ℕ)) (texts : List (List ℕ))
    → Updates (λ x y. slice_cmp nat_cmp x.now y.now) s n k true → HasTexts s texts
    → HasTexts n (k.now ∷ texts)
seen_more s n k texts u h q =
    u.0 (record { ref_ptr = (0, 0); now = q })
    ∙ rw (is_eq-slice_cmp k.now q, h q)
    (or_cond (bytes_eq k.now q) (list_any (λ t. bytes_eq t q) texts))

not_true : (b : Bool) → true ≡ not b → b ≡ false
not_true true e = e
not_true false e = refl

pub returns-then-branch : goal.returns-then-branch
returns-then-branch c = λ texts h.
    let is : key_text c.args.key (view c.args.item.now) ≡ Some c.in-Some.text.now = search rules in
    let new : list_any (λ t. bytes_eq t c.in-Some.text.now) texts ≡ false =
    sym (h c.in-Some.text.now) ∙ not_true _ (search rules) in (
      mark_free c.args.key texts (view c.args.item.now) c.in-Some.text.now is new,
      rw is
          (seen_more c.args.seen.now c.insert.new.self c.in-Some.text texts (search rules) h),
    )
