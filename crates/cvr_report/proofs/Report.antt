-- The text of a volume is its pieces.
use Rattle.std.proofs.Common.{◌≡◌, ℕ, Bool, true, false, cond, List, [], ◌∷◌, ◌++◌, map, Some, None}
use Rattle.std.proofs.Common.{codes, refl, sym, ap, ◌∙◌, append_assoc}
use Rattle.std.specs.List.{filter, cons_option}
use Rattle.json.specs.Print.{quoted, escape_byte}
use Rattle.serde_json.specs.Data.{Data, array, string, Items, no_items, item, Members, no_members}
use Rattle.serde_json.specs.Data.{member}
use Rattle.serde_json.specs.Written.{compact_text, items_text, members_text}
use Rattle.serde_json.specs.View.{items_of}
use Rattle.cvr_fact_types.specs.declared.name.RecordName.{RecordName}
use Rattle.cvr_fact_types.specs.Facts.{Facts}
use Rattle.cvr_report.specs.Record.{comma_list, item_texts}
use Rattle.cvr_report.specs.Writes.{list_text}
use Rattle.cvr_report.specs.Page.{stands, shown_record}
use Rattle.cvr_report.specs.Volume.{Cover, volume_of, unless_empty, record_data}
use Rattle.cvr_report.specs.Pieces.{head_text, party_text, end_text, record_texts}
use Rattle.cvr_report.proofs.Texts.{joined-end}

-- the text of an array's items, and what follows
list_then : (ds : Items) (more : List ℕ)
    → items_text false ds ++ more ≡ comma_list false (item_texts ds) ++ (93 ∷ more)
list_then ds more = ap (λ s. s ++ more) (joined-end false ds)
    ∙ append_assoc (comma_list false (item_texts ds)) (93 ∷ []) more

-- from the Election on, in the texts of what a cover has
abbrev pub rest_text : Cover → List ℕ
rest_text c =
    codes ",\"Election\":[" ++ (comma_list false (item_texts c.elections)
    ++ (codes "],\"GeneratedDate\":" ++ (quoted c.date
    ++ (codes ",\"GpUnit\":[" ++ (comma_list false (item_texts c.units)
    ++ (codes "]" ++ (party_text (item_texts c.parties)
    ++ (codes ",\"ReportGeneratingDeviceIds\":["
    ++ (quoted c.device ++ (codes "],\"ReportType\":[\"aggregated\"],\"ReportingDevice\":["
    ++ (comma_list false (item_texts c.devices) ++ end_text)))))))))))

abbrev after_device : Cover → Members
after_device c = member (codes "ReportType") (array (item (string (codes "aggregated")) no_items))
    (member (codes "ReportingDevice") (array c.devices)
    (member (codes "Version") (string (codes "1.0.0")) no_members))

abbrev from_device : Cover → Members
from_device c = member (codes "ReportGeneratingDeviceIds") (array (item (string c.device) no_items))
    (after_device c)

records_are : (records : Items) (ms : Members)
    → members_text true (unless_empty (codes "CVR") records ms)
    ≡ list_text false (item_texts records) ++ members_text true ms
unfolding escape_byte
records_are no_items ms = refl
records_are (item d ds) ms =
    ap (λ s. codes ",\"CVR\":[" ++ s) (list_then (item d ds) (members_text true ms)
    ∙ append_assoc (compact_text d) (comma_list true (item_texts ds))
    (93 ∷ members_text true ms))
    ∙ sym (append_assoc (codes ",\"CVR\":[")
    (compact_text d ++ (comma_list true (item_texts ds) ++ 93 ∷ [])) (members_text true ms)
    ∙ ap (λ s. codes ",\"CVR\":[" ++ s)
    (append_assoc (compact_text d) (comma_list true (item_texts ds) ++ 93 ∷ [])
    (members_text true ms) ∙ ap (λ s. compact_text d ++ s)
    (append_assoc (comma_list true (item_texts ds)) (93 ∷ []) (members_text true ms))))

parties_are : (parties : Items) (ms : Members)
    → members_text true (unless_empty (codes "Party") parties ms)
    ≡ party_text (item_texts parties) ++ members_text true ms
unfolding escape_byte
parties_are no_items ms = refl
parties_are (item d ds) ms =
    ap (λ s. codes ",\"Party\":[" ++ s) (list_then (item d ds) (members_text true ms))
    ∙ sym (append_assoc (codes ",\"Party\":[")
    (comma_list false (item_texts (item d ds)) ++ codes "]") (members_text true ms)
    ∙ ap (λ s. codes ",\"Party\":[" ++ s)
    (append_assoc (comma_list false (item_texts (item d ds))) (codes "]")
    (members_text true ms)))

devices_are : (c : Cover) → members_text true (from_device c)
    ≡ codes ",\"ReportGeneratingDeviceIds\":["
    ++ (quoted c.device ++ (codes "],\"ReportType\":[\"aggregated\"],\"ReportingDevice\":["
    ++ (comma_list false (item_texts c.devices) ++ end_text)))
unfolding escape_byte
devices_are c =
    ap (λ s. codes ",\"ReportGeneratingDeviceIds\":[" ++ s)
    (append_assoc (quoted c.device) (93 ∷ []) (members_text true (after_device c)))
    ∙ ap (λ s. codes ",\"ReportGeneratingDeviceIds\":["
    ++ (quoted c.device ++ (codes "],\"ReportType\":[\"aggregated\"],\"ReportingDevice\":["
    ++ s))) (list_then c.devices (codes ",\"Version\":\"1.0.0\"}"))

fronts_are : (c : Cover) (ms : Members)
    → members_text true (member (codes "Election") (array c.elections)
    (member (codes "GeneratedDate") (string c.date) (member (codes "GpUnit") (array c.units) ms)))
    ≡ codes ",\"Election\":[" ++ (comma_list false (item_texts c.elections)
    ++ (codes "],\"GeneratedDate\":" ++ (quoted c.date
    ++ (codes ",\"GpUnit\":[" ++ (comma_list false (item_texts c.units)
    ++ (codes "]" ++ members_text true ms))))))
unfolding escape_byte
fronts_are c ms =
    ap (λ s. codes ",\"Election\":[" ++ s)
    (list_then c.elections (members_text true
    (member (codes "GeneratedDate") (string c.date)
    (member (codes "GpUnit") (array c.units) ms))))
    ∙ ap (λ s. codes ",\"Election\":[" ++
    (comma_list false (item_texts c.elections)
    ++ (codes "],\"GeneratedDate\":" ++ (quoted c.date ++ (codes ",\"GpUnit\":[" ++ s)))))
    (list_then c.units (members_text true ms))

pub volume_text : (c : Cover) (records : Items)
    → compact_text (volume_of c records)
    ≡ head_text ++ (list_text false (item_texts records) ++ rest_text c)
unfolding escape_byte
volume_text c records =
    ap (λ s. head_text ++ s) (records_are records
    (member (codes "Election") (array c.elections)
    (member (codes "GeneratedDate") (string c.date)
    (member (codes "GpUnit") (array c.units)
    (unless_empty (codes "Party") c.parties (from_device c)))))
    ∙ ap (λ s. list_text false (item_texts records) ++ s)
    (fronts_are c (unless_empty (codes "Party") c.parties (from_device c))
    ∙ ap (λ s. codes ",\"Election\":[" ++
    (comma_list false (item_texts c.elections)
    ++ (codes "],\"GeneratedDate\":" ++ (quoted c.date
    ++ (codes ",\"GpUnit\":[" ++ (comma_list false (item_texts c.units) ++ (codes "]" ++ s)))))))
    (parties_are c.parties (from_device c)
    ∙ ap (λ s. party_text (item_texts c.parties) ++ s) (devices_are c))))

-- ---- the records

one_text : (b : Bool) (d : RecordName → Data) (k : RecordName) (ks : List RecordName)
    (more : List (List ℕ)) → item_texts (items_of (map d ks)) ≡ more
    → item_texts (items_of (map d (cond b (k ∷ ks) ks)))
    ≡ cons_option (cond b (Some (compact_text (d k))) None) more
one_text true d k ks more h = ap (λ ts. compact_text (d k) ∷ ts) h
one_text false d k ks more h = h

pub records_text : (s : Facts) (i : ℕ) (keys : List RecordName)
    → item_texts (items_of (map (λ k. record_data (shown_record s i k)) (filter (stands s i) keys)))
    ≡ record_texts s i keys
records_text s i [] = refl
records_text s i (k ∷ ks) = one_text (stands s i k) (λ k. record_data (shown_record s i k)) k
    (filter (stands s i) ks) (record_texts s i ks) (records_text s i ks)
