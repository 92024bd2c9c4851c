use Rattle.std.proofs.Common.{false, []}
use Rattle.cdf_form.specs.declared.table.Member.{Member}
use Rattle.cdf_form.specs.declared.table.Kind.TheVariants as kind
use Rattle.cdf_form.specs.declared.table.Leaf.TheVariants as leaf
use Rattle.cdf_definition.proofs.Entries.{keyed_at}
use Rattle.cdf_definition.proofs.rest.has_entries.Goals as goal

abbrev no_entry : Member
no_entry = record {
  name = record { ref_ptr = (0, 0); now = [] };
  required = false;
  kind = kind.One leaf.Text;
}

pub has_entry-requires : goal.has_entry-requires
has_entry-requires c =
    keyed_at c.args.entries.now c.loop-entry.entry-index no_entry c.loop-entry-test.true c.requires
