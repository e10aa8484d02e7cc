use Rattle.std.proofs.Common.{◌≡◌, ◌++◌, ℕ, List, Option, Some, None, option_map, string_bytes, codes, ap, sym, ◌∙◌}
use Rattle.tokei_config.specs.Files.{text_at}
use Rattle.tokei_config.specs.Flaws.{flaw_at, listed, placed_causes}
use Rattle.tokei_config.specs.Seen.{settings_of}
use Rattle.tokei_config.specs.declared.config.Config.{Config}
use Rattle.tokei_config.proofs.FileTexts.{of_text, first_file, first_flaws, second_file, second_flaws, no_file}
use Rattle.tokei_folders.specs.Tree.{Tree, names_of}
use Rattle.tokei_table.specs.Row.{Row}
use Rattle.tokei_config.proofs.files.config_in.Goals as goal

-- what was answered of a place under another name of both
answered : (rows : List Row) (t : Tree) (name p q : List ℕ) (o w : Option Config) → o ≡ w → p ≡ q → option_map settings_of o ≡ of_text rows (text_at t (names_of p) name)
    → option_map settings_of w ≡ of_text rows (text_at t (names_of q) name)
answered rows t name p q o w is same told = ap (option_map settings_of) (sym is) ∙ told ∙ ap (λ r. of_text rows (text_at t (names_of r) name)) same

pub returns-in-Some-2-clause-told : goal.returns-in-Some-2-clause-told
returns-in-Some-2-clause-told g c = λ t e.
    let first = answered c.args.table.now t (codes "tokei.toml") c.as_str-place.result.now (string_bytes c.in-Some.folder) c.in_ok-config.field-0 (Some c.in-Some-2.config)
    c.in-Some-2.is c.as_str-place.ensures.value (c.in_ok-config.ensures.told t e) in
    rw c.in-Some.is (first_file c.args.table.now _ _ (settings_of c.in-Some-2.config) first)

pub returns-in-Some-3-clause-told : goal.returns-in-Some-3-clause-told
returns-in-Some-3-clause-told g c = λ t e.
    let first = answered c.args.table.now t (codes "tokei.toml") c.as_str-place.result.now (string_bytes c.in-Some.folder) c.in_ok-config.field-0 None
    c.in_default-2.is c.as_str-place.ensures.value (c.in_ok-config.ensures.told t e) in
    let second = answered c.args.table.now t (codes ".tokeirc") c.as_str-place.result.now (string_bytes c.in-Some.folder) c.in_ok-config-2.field-0 (Some c.in-Some-3.config)
    c.in-Some-3.is c.as_str-place.ensures.value (c.in_ok-config-2.ensures.told t (c.in_ok-config.ensures.folders.same ∙ e)) in
    rw c.in-Some.is (second_file c.args.table.now _ _ (settings_of c.in-Some-3.config) first second)

pub returns-in-None-clause-told : goal.returns-in-None-clause-told
returns-in-None-clause-told g c = λ t e.
    let first = answered c.args.table.now t (codes "tokei.toml") c.as_str-place.result.now (string_bytes c.in-Some.folder) c.in_ok-config.field-0 None
    c.in_default-2.is c.as_str-place.ensures.value (c.in_ok-config.ensures.told t e) in
    let second = answered c.args.table.now t (codes ".tokeirc") c.as_str-place.result.now (string_bytes c.in-Some.folder) c.in_ok-config-2.field-0 None
    c.in-None.is c.as_str-place.ensures.value (c.in_ok-config-2.ensures.told t (c.in_ok-config.ensures.folders.same ∙ e)) in
    rw c.in-Some.is (no_file c.args.table.now _ _ (settings_of c.new-in-None.result) first second c.new-in-None.ensures)

pub returns-in-Some-2-clause-flawed : goal.returns-in-Some-2-clause-flawed
returns-in-Some-2-clause-flawed g c = λ t e.
    let first = answered c.args.table.now t (codes "tokei.toml") c.as_str-place.result.now (string_bytes c.in-Some.folder) c.in_ok-config.field-0 (Some c.in-Some-2.config)
    c.in-Some-2.is c.as_str-place.ensures.value (c.in_ok-config.ensures.told t e) in
    let place = string_bytes c.in-Some.folder in
    let fs = listed (flaw_at c.args.table.now t place (codes "tokei.toml")) in
    let text = text_at t (names_of place) (codes "tokei.toml") in
    let begun = c.in_ok-config.ensures.flawed t e ∙ ap (λ r. placed_causes c.args.flaws.now.items ++ listed (flaw_at c.args.table.now t r (codes "tokei.toml"))) c.as_str-place.ensures.value in
    rw c.in-Some.is (first_flaws c.args.table.now t place (placed_causes c.args.flaws.now.items) fs _ text (settings_of c.in-Some-2.config) first begun)

pub returns-in-Some-3-clause-flawed : goal.returns-in-Some-3-clause-flawed
returns-in-Some-3-clause-flawed g c = λ t e.
    let first = answered c.args.table.now t (codes "tokei.toml") c.as_str-place.result.now (string_bytes c.in-Some.folder) c.in_ok-config.field-0 (None)
    c.in_default-2.is c.as_str-place.ensures.value (c.in_ok-config.ensures.told t e) in
    let place = string_bytes c.in-Some.folder in
    let fs = listed (flaw_at c.args.table.now t place (codes "tokei.toml")) in
    let text = text_at t (names_of place) (codes "tokei.toml") in
    let begun = c.in_ok-config.ensures.flawed t e ∙ ap (λ r. placed_causes c.args.flaws.now.items ++ listed (flaw_at c.args.table.now t r (codes "tokei.toml"))) c.as_str-place.ensures.value in
    let more = c.in_ok-config-2.ensures.flawed t (c.in_ok-config.ensures.folders.same ∙ e)
    ∙ ap (λ r. placed_causes c.config_at.new.flaws.items ++ listed (flaw_at c.args.table.now t r (codes ".tokeirc"))) c.as_str-place.ensures.value in
    rw c.in-Some.is (second_flaws c.args.table.now t place (placed_causes c.args.flaws.now.items) fs _ _ text first begun more)

pub returns-in-None-clause-flawed : goal.returns-in-None-clause-flawed
returns-in-None-clause-flawed g c = λ t e.
    let first = answered c.args.table.now t (codes "tokei.toml") c.as_str-place.result.now (string_bytes c.in-Some.folder) c.in_ok-config.field-0 (None)
    c.in_default-2.is c.as_str-place.ensures.value (c.in_ok-config.ensures.told t e) in
    let place = string_bytes c.in-Some.folder in
    let fs = listed (flaw_at c.args.table.now t place (codes "tokei.toml")) in
    let text = text_at t (names_of place) (codes "tokei.toml") in
    let begun = c.in_ok-config.ensures.flawed t e ∙ ap (λ r. placed_causes c.args.flaws.now.items ++ listed (flaw_at c.args.table.now t r (codes "tokei.toml"))) c.as_str-place.ensures.value in
    let more = c.in_ok-config-2.ensures.flawed t (c.in_ok-config.ensures.folders.same ∙ e)
    ∙ ap (λ r. placed_causes c.config_at.new.flaws.items ++ listed (flaw_at c.args.table.now t r (codes ".tokeirc"))) c.as_str-place.ensures.value in
    rw c.in-Some.is (second_flaws c.args.table.now t place (placed_causes c.args.flaws.now.items) fs _ _ text first begun more)
