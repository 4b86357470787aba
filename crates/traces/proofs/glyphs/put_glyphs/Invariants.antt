use Rattle.std.proofs.Common.{◌≡◌, ◌++◌, take, flat_map}
use Rattle.std.specs.String.{string_bytes}
use Rattle.traces.specs.Glyphs.{glyph_text}
use Rattle.traces.proofs.glyphs.put_glyphs.Given as goal

abbrev pub invariant-loop-glyph : goal.invariant-loop-glyph
invariant-loop-glyph l =
    string_bytes l.out ≡ string_bytes l.initial.out ++ flat_map glyph_text (take l.glyph-index l.glyphs)
