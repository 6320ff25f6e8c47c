-- No field is empty in a line that says an item.
use Rattle.std.proofs.Common.{◌≡◌, ℕ, false, ◌&&◌, ltb, inl, inr, List, [], ◌∷◌, length, refl, codes}
use Rattle.std.proofs.lemmas.Bool.{and_parts}
use Rattle.script_text.specs.declared.table.Sort.{Sort}
use Rattle.script_text.specs.declared.table.Sort.TheVariants as sorts
use Rattle.script_text.specs.declared.item.Item.{Item}
use Rattle.script_text.specs.declared.item.Item.TheVariants as items
use Rattle.script_text.specs.Table.{row_fields, nothing, sort_text, sort_fields, sort_of}
use Rattle.script_text.specs.Commands.{word_of}
use Rattle.script_text.specs.Pieces.{is_between}
use Rattle.script_text.specs.Versions.{is_version}
use Rattle.script_text.specs.Items.{may_come, limits_of, client_names, object_names, objects}
use Rattle.script_text.specs.Grammar.{are_new_names, is_region}
use Rattle.script_text.specs.Known.{known_of}
use Rattle.script_text.proofs.VersionLemmas.{which_version, text_1, text_2}
use Rattle.script_text.proofs.NameLemmas.{new_parts}
use Rattle.script_text.proofs.KnownLaws.{IsLawful}
use Rattle.script_text.specs.Laws.{Follows}
use Rattle.script_text.proofs.CommandLaws.{may_ask, word_full}
use Rattle.script_text.proofs.KindLaws.{all_full}
use Rattle.script_text.proofs.FullLaws.{is_empty, any_empty, name_full, number_full, name_of_full, names_full, region_full}

sort_full : (sort : Sort) → is_empty (sort_text sort) ≡ false
sort_full sorts.Map = refl
sort_full sorts.Tx = refl
sort_full sorts.Causal = refl
sort_full sorts.Queue = refl
sort_full sorts.Tree = refl
sort_full sorts.Parts = refl

pub says_full : (before : List Item) (number : ℕ) (fields : List (List ℕ)) (item : Item) → IsLawful (known_of before) → Follows before number fields item → any_empty fields ≡ false
says_full before number fields (items.Version version) l f =
    elim (which_version version (and_parts (may_come before (codes "fuzzylog")) (is_version version) f.may).1) [
      | inl one ↦ rw (f.says, one, text_1) refl
      | inr two ↦ rw (f.says, two, text_2) refl
    ]
says_full before number fields (items.Regions names) l f =
    let a = and_parts (may_come before (codes "regions") && is_between 1 (limits_of before).regions (length names)) (are_new_names [] names) f.may in
    rw (f.says, names_full [] names a.1) refl
says_full before number fields (items.Colours names) l f =
    let a = and_parts (may_come before (codes "colours") && is_between 1 (limits_of before).colours (length names)) (are_new_names [] names) f.may in
    rw (f.says, names_full [] names a.1) refl
says_full before number fields (items.Rows rows) l f = rw (f.says.2, number_full 10 f.says.0 f.says.1.digits) refl
says_full before number fields (items.Client name home) l f =
    let a = and_parts (may_come before (codes "client") && ltb (length (client_names before)) (limits_of before).clients && are_new_names (client_names before) (name ∷ [])) (is_region before home) f.may in
    let b = and_parts (may_come before (codes "client") && ltb (length (client_names before)) (limits_of before).clients) (are_new_names (client_names before) (name ∷ [])) a.0 in
    rw (f.says, name_full name (new_parts (client_names before) [] name b.1).0, region_full before home l a.1) refl
says_full before number fields (items.Declared object) l f =
    let sort = sort_of object.kind in
    let fresh = are_new_names (object_names before) (object.name ∷ []) in
    let a = and_parts (may_come before (sort_text sort) && ltb (length (objects before)) (limits_of before).objects) fresh f.may in
    let s = f.says.1 in
    rw (f.says.2, sort_full sort, name_full object.name (new_parts (object_names before) [] object.name a.1).0, all_full before (sort_fields sort) f.says.0 nothing s.given l s.spelled) refl
says_full before number fields items.Begin l f = rw f.says refl
says_full before number fields (items.Asks command) l f =
    let m = may_ask before command f.may in
    rw (
      f.says.3,
      name_of_full [] (client_names before) command.client l.clients m.known,
      word_full (word_of command.what),
      all_full before (row_fields (word_of command.what)) f.says.1 nothing f.says.2.given l f.says.2.spelled,
    ) refl
