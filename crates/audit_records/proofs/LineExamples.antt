-- Lines that are known, computed.
use Rattle.std.proofs.Common.{◌≡◌, ℕ, Bool, true, false, List, [], ◌∷◌, ◌++◌, refl, codes, Some, None}
use Rattle.std.specs.Str.{is_utf8, chars}
use Rattle.audit_records.specs.declared.line.AuditLine.{AuditLine}
use Rattle.audit_records.specs.declared.line.Field.{Field}
use Rattle.audit_records.specs.Lines.{around, before, behind, fields_of, head_of, id_at, kind_at, line_of, number_at, number_of, onward, stamp_at, unnamed, value_at, word_at}

abbrev field : List ℕ → Bool → List ℕ → Field
field key quoted text = record { key = key; quoted = quoted; text = text }

abbrev line : List ℕ → List Field → AuditLine
line kind fields = record { id = record { seconds = 1700000000; millis = 123; serial = 456 }; kind = kind; fields = fields }

working_folder : line_of (codes "type=CWD msg=audit(1700000000.123:456): cwd=\"/home/ann\"") ≡ Some (line (codes "CWD") (field (codes "cwd") true (codes "/home/ann") ∷ []))
unfolding is_utf8 chars lib.Utf8.encode around before behind fields_of head_of id_at kind_at line_of number_at number_of onward stamp_at unnamed value_at word_at
working_folder = refl

title : line_of (codes "type=PROCTITLE msg=audit(1700000000.123:456): proctitle=6C73002D6C") ≡ Some (line (codes "PROCTITLE") (field (codes "proctitle") false (codes "6C73002D6C") ∷ []))
unfolding is_utf8 chars lib.Utf8.encode around before behind fields_of head_of id_at kind_at line_of number_at number_of onward stamp_at unnamed value_at word_at
title = refl

node_and_null : line_of (codes "node=a type=SYSCALL msg=audit(1700000000.123:456): ses=3 key=(null)") ≡ Some (line (codes "SYSCALL") (field (codes "ses") false (codes "3") ∷ field (codes "key") false (codes "(null)") ∷ []))
unfolding is_utf8 chars lib.Utf8.encode around before behind fields_of head_of id_at kind_at line_of number_at number_of onward stamp_at unnamed value_at word_at
node_and_null = refl

separator_and_word : line_of (codes "type=A msg=audit(1700000000.123:456): old a='b c'" ++ 29 ∷ codes "d=") ≡ Some (line (codes "A") (field (codes "a") true (codes "b c") ∷ field (codes "d") false [] ∷ []))
unfolding is_utf8 chars lib.Utf8.encode around before behind fields_of head_of id_at kind_at line_of number_at number_of onward stamp_at unnamed value_at word_at
separator_and_word = refl

behind_quote : line_of (codes "type=A msg=audit(1700000000.123:456): a=\"b\"c") ≡ None
unfolding is_utf8 chars lib.Utf8.encode around before behind fields_of head_of id_at kind_at line_of number_at number_of onward stamp_at unnamed value_at word_at
behind_quote = refl

open_quote : line_of (codes "type=A msg=audit(1700000000.123:456): a=\"b") ≡ None
unfolding is_utf8 chars lib.Utf8.encode around before behind fields_of head_of id_at kind_at line_of number_at number_of onward stamp_at unnamed value_at word_at
open_quote = refl

no_key : line_of (codes "type=A msg=audit(1700000000.123:456): =b") ≡ None
unfolding is_utf8 chars lib.Utf8.encode around before behind fields_of head_of id_at kind_at line_of number_at number_of onward stamp_at unnamed value_at word_at
no_key = refl

too_large : line_of (codes "type=A msg=audit(1700000000.123:18446744073709551616):") ≡ None
unfolding is_utf8 chars lib.Utf8.encode around before behind fields_of head_of id_at kind_at line_of number_at number_of onward stamp_at unnamed value_at word_at
too_large = refl
