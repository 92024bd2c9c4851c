-- What a report is (NIST SP 1500-103, enumeration ReportType).
use Rattle.std.specs.Prelude.{ℕ, List, codes}
use Rattle.cdf_types.specs.declared.report_kind.ReportKind.{ReportKind}
use Rattle.cdf_types.specs.declared.report_kind.ReportKind.TheVariants as report_kind

-- the text of each ReportType
abbrev pub report_kind_text : ReportKind → List ℕ
report_kind_text report_kind.Adjudicated = codes "adjudicated"
report_kind_text report_kind.Aggregated = codes "aggregated"
report_kind_text report_kind.OriginatingDeviceExport = codes "originating-device-export"
report_kind_text report_kind.Other = codes "other"
report_kind_text report_kind.RcvRound = codes "rcv-round"
