use Rattle.std.proofs.Common.{◌≡◌, ◌++◌, string_bytes, sym, ap, ◌∙◌, subst}
use Rattle.json.specs.Lex.{tokens}
use Rattle.json.specs.Print.{print}
use Rattle.serde_json.specs.Written.{IsInOrder}
use Rattle.serde_json.proofs.Texts.{tokens_from_order, print-outline}
use Rattle.cdf_node.specs.View.{view}
use Rattle.cdf_node.specs.Written.{WritesValue}
use Rattle.cdf_node.proofs.node.Node.to_string.Goals as goal

pub returns : goal.returns
returns c =
    let ts = c.write.new.out.tokens in
    let out = c.into_inner.ensures in
    let text : string_bytes c.from_utf8_unchecked.result ≡ print ts =
    ap (λ v. v.items) c.from_utf8_unchecked.ensures.value ∙ out.items
    ∙ ap (λ b. b ++ print ts) (c.write.ensures.before ∙ c.new-out.ensures.before
    ∙ c.in_ok-with_capacity.ensures.items) in
    let read = ap tokens text ∙ out.reads_back in
    let compact = text ∙ ap print (sym read) in
    let w = subst (λ old. WritesValue (view c.args.self.now) old ts) c.new-out.ensures.tokens
    c.in_ok-write.ensures.ok in
    let order : IsInOrder (string_bytes c.from_utf8_unchecked.result) (view c.args.self.now) =
    (w.0, read ∙ w.1, w.2) in
    record {
      text = λ whole. compact ∙ ap print (tokens_from_order _ _ order whole)
          ∙ print-outline _;
      compact = compact;
      order = order;
    }
