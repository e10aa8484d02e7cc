-- The code's values as the definitions see them.
use Rattle.std.specs.Prelude.{option_map}
use Rattle.tokei_embedding.specs.Fences.{Fence}
use Rattle.tokei_embedding.specs.Spans.{Span}
use Rattle.tokei_embedding.specs.Tags.{Opening, TagBlock}
use Rattle.tokei_embedding.specs.TargetBlocks.{TargetBlock}
use Rattle.tokei_embedding.specs.declared.fences.FenceAt.{FenceAt}
use Rattle.tokei_embedding.specs.declared.spans.Span as CodeSpan
use Rattle.tokei_embedding.specs.declared.tags.Opening as CodeOpening
use Rattle.tokei_embedding.specs.declared.tags.TagAt.{TagAt}
use Rattle.tokei_embedding.specs.declared.target_blocks.TargetAt.{TargetAt}

-- a fence with the bytes of its info and of its contents
abbrev pub fence_seen : FenceAt → Fence
fence_seen fence =
    record {
      info = fence.info.now;
      contents = fence.contents.now;
      size = fence.size;
      closed =
          fence.closed;
    }

-- a span, by the places in bytes at which it starts and stops
abbrev pub span_seen : CodeSpan.Span → Span
span_seen span = record { start = span.start; stop = span.stop }

-- a tag's opening: its whole span, and that of its attribute's value where it has one
abbrev pub opening_seen : CodeOpening.Opening → Opening
opening_seen opening = record {
  whole = span_seen opening.whole;
  value =
      option_map span_seen opening.value;
}

-- an element, with the bytes of its attribute's value and of its contents
abbrev pub tag_seen : TagAt → TagBlock
tag_seen tag =
    record {
      value = option_map (λ v. v.now) tag.value;
      contents = tag.contents.now;
      size =
          tag.size;
    }

-- a block of the target language, with the bytes of its contents
abbrev pub target_seen : TargetAt → TargetBlock
target_seen target = record { contents = target.contents.now; size = target.size }
