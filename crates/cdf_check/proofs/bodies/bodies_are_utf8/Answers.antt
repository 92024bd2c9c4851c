use Rattle.cdf_check.proofs.Spelling.{file_utf8}
use Rattle.cdf_check.proofs.Utf8.{written_part_utf8, part_utf8, proper_utf8, text_utf8, bodies_utf8}
use Rattle.cdf_check.proofs.bodies.bodies_are_utf8.Goals as goal

pub returns : goal.returns
returns c = record {
  value = file_utf8;
  part = written_part_utf8;
  parts = part_utf8;
  proper = proper_utf8;
  text = text_utf8;
  bodies = bodies_utf8;
}
