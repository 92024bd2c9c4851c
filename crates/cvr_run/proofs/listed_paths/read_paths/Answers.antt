-- The `paths` so far and the parts of `rest` at each `end` byte are the parts of the whole text; a
-- last part without such a byte is a path unless it is empty.
use Rattle.std.proofs.Common.{rules, ◌≡◌, ◌∙◌, ◌++◌, ◌==◌, ℕ, [], ◌∷◌, ap, sym, append-nil}
use Rattle.std.proofs.Common.{append_assoc}
use Rattle.std.specs.List.{before_first}
use Rattle.cvr_run.specs.ListedPaths.{end_of, parts_at}
use Rattle.cvr_run.proofs.ListedPaths.{cut_first, last_path, no_path}
use Rattle.cvr_run.proofs.listed_paths.read_paths.Goals as goal
use Rattle.cvr_run.proofs.listed_paths.read_paths.Goals.{then-not-is_empty+in_ok-path_of-2+in_ok-push-2}
use Rattle.cvr_run.proofs.listed_paths.read_paths.Goals.{else-not-is_empty}

pub ends-preserved : goal.ends-preserved
ends-preserved c =
    let end = c.end_byte-end.result in
    let rest = c.ends.rest.now in
    let path = c.in-Some.path.now in
    let more = c.in-Some.more.now in
    let cut = c.in-Some.ensures.byte c.end_byte-end.ensures.ascii (λ w o f. f) in
    let pushed : c.push.new.self ≡ c.ends.paths ++ path ∷ [] = search rules in (
      search rules,
      ap (λ ps. ps ++ parts_at end more) pushed
          ∙ (append_assoc c.ends.paths (path ∷ []) (parts_at end more)
          ∙ (ap (λ p. c.ends.paths ++ p ∷ parts_at end more) cut.0
          ∙ (ap (λ m. c.ends.paths ++ before_first (λ b. b == end) rest ∷ parts_at end m) cut.1
          ∙ (ap (λ ps. c.ends.paths ++ ps) (sym (cut_first end rest cut.2))
          ∙ c.ends.invariant.1)))),
    )

pub returns : goal.returns
returns c =
    let end = c.end_byte-end.result in
    let rest = c.ends.rest.now in
    let text = c.args.text.now in
    let all = c.in_default.ensures.byte c.end_byte-end.ensures.ascii (λ w o f. f) in
    let whole : c.ends.paths ++ parts_at end rest ≡ parts_at (end_of c.args.by_null) text =
    c.ends.invariant.1 ∙ ap (λ (e : ℕ). parts_at e text) c.end_byte-end.ensures.end in
    elim c.if-not-is_empty.branch [
      | then-not-is_empty+in_ok-path_of-2+in_ok-push-2 w ↦
          let pushed : c.if-not-is_empty.paths ≡ c.ends.paths ++ rest ∷ [] = search rules in
          pushed ∙ (ap (λ ps. c.ends.paths ++ ps) (sym (last_path end rest (search rules) all))
          ∙ whole)
      | else-not-is_empty w ↦
          let none = no_path end rest c.is_empty.result (search rules) c.is_empty.ensures in
          w.paths-is ∙ (sym (append-nil c.ends.paths)
          ∙ (ap (λ ps. c.ends.paths ++ ps) (sym none) ∙ whole))
    ]
