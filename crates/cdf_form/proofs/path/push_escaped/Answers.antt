use Rattle.std.proofs.Common.{◌≡◌, ◌++◌, string_bytes, sym, ap, ◌∙◌, append_assoc}
use Rattle.std.specs.Char.{encode_utf8}
use Rattle.std.specs.Str.{encode_utf8_all}
use Rattle.cdf_form.specs.Path.{escape}
use Rattle.cdf_form.proofs.Pointers.{escape-more}
use Rattle.cdf_form.proofs.path.push_escaped.Goals as goal

pub loop-c-preserved : goal.loop-c-preserved
loop-c-preserved c =
    let old = string_bytes c.args.text.now in
    let e : string_bytes c.push_char.new.text
    ≡ string_bytes c.loop-c.text ++ escape (encode_utf8 c.in-Some.c) = c.in_ok-push_char.ensures
    in
    e ∙ ap (λ t. t ++ escape (encode_utf8 c.in-Some.c)) c.loop-c.invariant
    ∙ append_assoc old (escape (encode_utf8_all c.loop-c.yielded))
    (escape (encode_utf8 c.in-Some.c))
    ∙ ap (λ t. old ++ t) (sym (escape-more c.loop-c.yielded c.in-Some.c))
