-- The commands: what has to stand among their words.
use Rattle.std.proofs.Common.{◌≡◌, ◌∙◌, true, false, List, [], codes, inl, inr, map, refl, sym}
use Rattle.std.specs.List.{list_any}
use Rattle.std.specs.Str.{bytes_eq}
use Rattle.std.proofs.lemmas.Slice.Eq.{bytes_eq-Decides}
use Rattle.clap.specs.Simple.{Shape, built_leaf, inherited, marked_built, on_top, with_leaf_noted}
use Rattle.clap.specs.Walk.{Text, rows_after}
use Rattle.cvr_words.specs.Line.{command_names, cvr_line, drill_line, files_line, merge_line}
use Rattle.cvr_words.specs.Rows.{HasNumber, HasWord, AreRowsOf}
use Rattle.cvr_words.proofs.Lists.{Each}
use Rattle.cvr_words.proofs.Whole.{IsPlainLevel, IsSound, has_number, has_word, standing, stands}

-- a command as it stands among the others, once clap has filled it in
abbrev pub leaf : Shape → Shape
leaf s = built_leaf (inherited (on_top with_leaf_noted (on_top marked_built cvr_line)).top s)

-- a command is named, and where its words meet no fault what has to stand stands
pub record IsKnown (s : Shape) : Type 0 where
  pub named : list_any (bytes_eq s.name) command_names ≡ true
  pub whole : (words : List Text) → IsSound s words → AreRowsOf s.name (rows_after s.rules [] words)

apart : (a b : Text) → bytes_eq a b ≡ false → a ≡ b → ⊥
apart a b differ e = let bad : true ≡ false = sym ((bytes_eq-Decides a b).1 e) ∙ differ in cc

files_plain : (name : Text) → IsPlainLevel (leaf (files_line name).top)
files_plain name = record {
  again = refl;
  else_help = refl;
  subcommand = refl;
  negates = refl;
  defaults = (refl, (refl, (refl, tt)));
}

files_def : (name : Text) (words : List Text) → IsSound (leaf (files_line name).top) words
    → HasWord (codes "DEF") (rows_after (leaf (files_line name).top).rules [] words)
files_def name words sound =
    has_word (leaf (files_line name).top) (codes "DEF") 1 (files_plain name)
    (inl refl, (inr refl, (inr refl, tt))) words sound
    (stands _ (standing (leaf (files_line name).top) (files_plain name) words sound).0)

files_known : (name : Text) → list_any (bytes_eq name) command_names ≡ true
    → bytes_eq name (codes "merge") ≡ false → bytes_eq name (codes "drill") ≡ false
    → IsKnown (leaf (files_line name).top)
files_known name listed merge drill = record {
  named = listed;
  whole = λ words sound. record {
    def = files_def name words sound;
    merge = λ e. absurd (apart name (codes "merge") merge e);
    drill = λ e. absurd (apart name (codes "drill") drill e);
  };
}

merge_plain : IsPlainLevel (leaf merge_line.top)
merge_plain = record {
  again = refl;
  else_help = refl;
  subcommand = refl;
  negates = refl;
  defaults = (refl, (refl, (refl, (refl, (refl, (refl, tt))))));
}

merge_def : (words : List Text) → IsSound (leaf merge_line.top) words
    → HasWord (codes "DEF") (rows_after (leaf merge_line.top).rules [] words)
merge_def words sound =
    has_word (leaf merge_line.top) (codes "DEF") 1 merge_plain
    (inl refl, (inr refl, (inr refl, (inr refl, (inr refl, (inr refl, tt)))))) words sound
    (stands _ (standing (leaf merge_line.top) merge_plain words sound).0)

merge_date : (words : List Text) → IsSound (leaf merge_line.top) words
    → HasWord (codes "DATE") (rows_after (leaf merge_line.top).rules [] words)
merge_date words sound =
    has_word (leaf merge_line.top) (codes "DATE") 2 merge_plain
    (inr refl, (inl refl, (inr refl, (inr refl, (inr refl, (inr refl, tt)))))) words sound
    (stands _ (standing (leaf merge_line.top) merge_plain words sound).1.0)

merge_device : (words : List Text) → IsSound (leaf merge_line.top) words
    → HasWord (codes "DEVICE") (rows_after (leaf merge_line.top).rules [] words)
merge_device words sound =
    has_word (leaf merge_line.top) (codes "DEVICE") 3 merge_plain
    (inr refl, (inr refl, (inl refl, (inr refl, (inr refl, (inr refl, tt)))))) words sound
    (stands _ (standing (leaf merge_line.top) merge_plain words sound).1.1.0)

merge_volume : (words : List Text) → IsSound (leaf merge_line.top) words
    → HasNumber (codes "VOLUME") 1 4294967295 (rows_after (leaf merge_line.top).rules [] words)
merge_volume words sound =
    has_number (leaf merge_line.top) (codes "VOLUME") 1 4294967295 4 merge_plain
    (inr refl, (inr refl, (inr refl, (inl refl, (inr refl, (inr refl, tt)))))) words sound
    (stands _ (standing (leaf merge_line.top) merge_plain words sound).1.1.1.0)

merge_known : IsKnown (leaf merge_line.top)
merge_known = record {
  named = refl;
  whole = λ words sound. record {
    def = merge_def words sound;
    merge = λ e. (merge_date words sound, merge_device words sound, merge_volume words sound);
    drill = λ e. absurd (apart (codes "merge") (codes "drill") refl e);
  };
}

drill_plain : IsPlainLevel (leaf drill_line.top)
drill_plain = record {
  again = refl;
  else_help = refl;
  subcommand = refl;
  negates = refl;
  defaults = (refl, (refl, (refl, (refl, tt))));
}

drill_def : (words : List Text) → IsSound (leaf drill_line.top) words
    → HasWord (codes "DEF") (rows_after (leaf drill_line.top).rules [] words)
drill_def words sound =
    has_word (leaf drill_line.top) (codes "DEF") 1 drill_plain
    (inl refl, (inr refl, (inr refl, (inr refl, tt)))) words sound
    (stands _ (standing (leaf drill_line.top) drill_plain words sound).0)

drill_offices : (words : List Text) → IsSound (leaf drill_line.top) words
    → HasNumber (codes "OFFICES") 1 64 (rows_after (leaf drill_line.top).rules [] words)
drill_offices words sound =
    has_number (leaf drill_line.top) (codes "OFFICES") 1 64 2 drill_plain
    (inr refl, (inl refl, (inr refl, (inr refl, tt)))) words sound
    (stands _ (standing (leaf drill_line.top) drill_plain words sound).1.0)

drill_known : IsKnown (leaf drill_line.top)
drill_known = record {
  named = refl;
  whole = λ words sound. record {
    def = drill_def words sound;
    merge = λ e. absurd (apart (codes "drill") (codes "merge") refl e);
    drill = λ e. drill_offices words sound;
  };
}

-- the commands, in their order
abbrev pub own : List Shape
own = map leaf cvr_line.subs

pub own_known : Each IsKnown own
own_known = search (files_known, merge_known, drill_known)
