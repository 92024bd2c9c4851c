-- The files of the examples are literals in ASCII, so facts, sums, headers and current snapshots
-- can be computed. The body is empty: no local is named.
use Rattle.std.proofs.Common.{map, refl, sym, ◌∙◌}
use Rattle.std.specs.List.{flat_map}
use Rattle.std.specs.Fmt.{digits}
use Rattle.serde_json.proofs.OnLiterals.{serde_json_on_literals}
use Rattle.jiff.proofs.OnLiterals.{jiff_on_literals}
use Rattle.cdf_typed.specs.Typed.{report_of}
use Rattle.cdf_definition.specs.Frame.{frame_of}
use Rattle.cdf_definition.specs.Sample.{definition_file}
use Rattle.cvr_facts.specs.Lists.{facts_in, stated_header, stated_list, stated_snapshots}
use Rattle.cvr_facts.specs.Examples as example
use Rattle.cvr_facts.proofs.examples.worked_files.Goals as goal
use Rattle.cvr_facts.proofs.WorkedFiles.{facts-ascii, both-ascii, len-file, len-files, current-files}
use Rattle.cvr_facts.proofs.WorkedFiles.{header-files}

pub returns : goal.returns
unfolding serde_json_on_literals jiff_on_literals digits
returns c = record {
  facts_of_file = facts-ascii example.every_kind_file refl;
  facts_stated_of_report =
      both-ascii (λ d file. let contests = (frame_of d).contests in
      facts_in (stated_list contests (report_of contests file))) definition_file example.every_kind_file _
      refl refl refl;
  header_of_report =
      both-ascii (λ d file. map stated_header (report_of (frame_of d).contests file).cvrs)
      definition_file example.every_kind_file _ refl refl refl;
  snapshot_of_report =
      both-ascii (λ d file. let contests = (frame_of d).contests in
      flat_map (stated_snapshots contests) (report_of contests file).cvrs)
      definition_file example.every_kind_file _ refl refl refl;
  numbers_of_report =
      both-ascii (λ d file. let contests = (frame_of d).contests in
      flat_map (stated_snapshots contests) (report_of contests file).cvrs)
      definition_file example.numbered_file _ refl refl refl;
  facts_of_two_cvrs = len-file example.two_cvrs_file _ refl refl;
  other_spelling = facts-ascii example.spaced_file refl ∙ sym (facts-ascii example.scan_file refl);
  order_of_choosing = (refl, refl, refl, refl);
  instants = current-files example.instant_files example.the_record _ refl refl;
  same_instant = current-files example.same_instant_files example.the_record _ refl refl;
  adjudicated = (
    current-files example.adjudicated_files example.the_record _ refl refl,
    len-files
        example.adjudicated_files _ refl refl,
  );
  dated_reading = current-files example.dated_files example.the_record _ refl refl;
  file_calls_another_current = current-files example.reading_files example.the_record _ refl refl;
  one_id_two_bodies = (
    current-files example.two_bodies_files example.the_record _ refl refl,
    len-files
        example.two_bodies_files _ refl refl,
  );
  unit_moves = (
    header-files example.moved_files example.the_record _ refl refl,
    len-files example.moved_files _
        refl refl,
  );
}
