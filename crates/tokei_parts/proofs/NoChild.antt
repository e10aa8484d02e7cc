-- Choices at which no child opens.
use Rattle.std.proofs.Common.{◌≡◌, String}
use Rattle.std.specs.Borrow.{Bor}
use Rattle.std.specs.Global.{Global}
use Rattle.tokei_parts.specs.declared.items.ItemKind.{ItemKind}
use Rattle.tokei_parts.specs.declared.choice.Choice.TheVariants.{ChildOpens, Opens, TakesByte}

pub no_opener : {kind : ItemKind} {pair : Bor (String Global × String Global)} → Opens kind pair ≡ ChildOpens → ⊥
no_opener e = cc

pub no_byte : TakesByte ≡ ChildOpens → ⊥
no_byte e = cc
