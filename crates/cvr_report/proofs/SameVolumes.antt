-- What two offices write alike.
use Rattle.std.proofs.Common.{map, ap}
use Rattle.serde_json.specs.Written.{compact_text}
use Rattle.cdf_definition.specs.Frame.{Frame}
use Rattle.cdf_definition.specs.Named.{texts_of}
use Rattle.cvr_fact_types.specs.Facts.{Facts}
use Rattle.cvr_office.proofs.Laws.{answer_alike, same_content, same_definition}
use Rattle.cvr_report.specs.Page.{Shown, page, volumes}
use Rattle.cvr_report.specs.Volume.{volume_of, values_of, records_data}
use Rattle.cvr_report.specs.Laws.{SameVolumesLaw, SameWritingLaw}

pub same_volumes : SameVolumesLaw
same_volumes f g s t same is = record {
  count = ap volumes is;
  texts = λ head i n. compact_text (volume_of (record {
    elections = values_of (same.elections n);
    date = head.date;
    units = values_of (same.units n);
    parties = values_of (same.parties n);
    device = head.device;
    devices = values_of (map (λ (s : Shown). s.body) (page (is n) i).devices);
  }) (records_data (page (is n) i)));
}

pub same_files_law : {Office : Type 0} (held : Office → Facts) (defined : Office → Frame)
    → SameWritingLaw held defined
same_files_law held defined before after files past o p one other new played same at also =
    let content =
    same_content held defined before after files past new played o p one other at also same in
    let definition =
    same_definition held defined before after files past new played o p one other at also in (
      record {
        contents = content;
        answers = answer_alike (defined one) (defined other) (held one)
            (held other) (ap (λ f. f.contests) definition) content;
      },
      same_volumes (defined one) (defined other) (held one) (held other)
          (record {
            elections = ap (λ f. texts_of f.elections) definition;
            units = ap (λ f. texts_of f.units) definition;
            parties = ap (λ f. texts_of f.parties) definition;
          }) content,
    )
