-- The glyphs of a picture, in SVG 1.1: all that stands in it beside its arrows. None has the head of an arrow.
use Rattle.std.specs.Prelude.{ℕ, ◌+◌, ◌-◌, ◌^◌, min, ◌==◌, nat_le, ◌&&◌, List, [], ◌∷◌, ◌++◌, length, take, flat_map}
use Rattle.std.specs.Prelude.{if◌then◌else◌, codes, decimal}
use Rattle.std.specs.List.{concat}
use Rattle.traces.specs.declared.crossings.Lane.{Lane}
use Rattle.traces.specs.declared.crossings.Lane.TheVariants as lanes
use Rattle.traces.specs.declared.points.Point.{Point}
use Rattle.traces.specs.declared.glyphs.Paint.{Paint}
use Rattle.traces.specs.declared.glyphs.Paint.TheVariants as paints
use Rattle.traces.specs.declared.glyphs.Glyph.{Glyph}
use Rattle.traces.specs.declared.glyphs.Glyph.TheVariants.{Line, Circle, Diamond, Words, Label, Name}

-- colors, as attributes
unfoldable pub paint_text : Paint → List ℕ
paint_text paints.Lane = codes "stroke=\"#bbbbbb\""
paint_text paints.ServerLane = codes "stroke=\"#777777\" stroke-width=\"2\""
paint_text paints.FailedLane = codes "stroke=\"#cccccc\" stroke-dasharray=\"2 5\""
paint_text paints.Failure = codes "stroke=\"#c62828\" stroke-width=\"3\""
paint_text paints.Notice = codes "fill=\"#c62828\""
paint_text paints.Begun = codes "fill=\"white\" stroke=\"black\""
paint_text paints.Came = codes "fill=\"#777777\""
paint_text paints.Answered = codes "fill=\"#2e7d32\""
paint_text paints.Committed = codes "fill=\"#ef6c00\""
paint_text paints.Plain = codes "fill=\"black\""
paint_text paints.Pale = codes "fill=\"#999999\""
paint_text paints.Value = codes "fill=\"#2e7d32\" font-weight=\"bold\""
paint_text paints.Edge = codes "fill=\"white\" stroke=\"white\" stroke-width=\"4\" stroke-linejoin=\"round\""

-- a line between two points, with these attributes
unfoldable pub line_text : Point → Point → List ℕ → List ℕ
line_text from to style =
    concat (codes "<line x1=\"" ∷ decimal from.x ∷ codes "\" y1=\"" ∷ decimal from.y ∷ codes "\" x2=\"" ∷
    decimal to.x ∷ codes "\" y2=\"" ∷ decimal to.y ∷ codes "\" " ∷ style ∷ codes "/>\n" ∷ [])

-- a circle of this radius round a point
unfoldable pub circle_text : Point → ℕ → List ℕ → List ℕ
circle_text at radius style =
    concat (codes "<circle cx=\"" ∷ decimal at.x ∷ codes "\" cy=\"" ∷ decimal at.y ∷ codes "\" r=\"" ∷
    decimal radius ∷ codes "\" " ∷ style ∷ codes "/>\n" ∷ [])

-- six units further to the right or below, as far as 64 bits count
abbrev pub six_on : ℕ → ℕ
six_on number = min (number + 6) (2 ^ 64 - 1)

-- a diamond round a point: its top, right, bottom and left
unfoldable pub diamond_text : Point → List ℕ → List ℕ
diamond_text at style =
    concat (codes "<polygon points=\" " ∷ decimal at.x ∷ codes "," ∷ decimal (at.y - 6) ∷ codes " " ∷
    decimal (six_on at.x) ∷ codes "," ∷ decimal at.y ∷ codes " " ∷ decimal at.x ∷ codes "," ∷
    decimal (six_on at.y) ∷ codes " " ∷ decimal (at.x - 6) ∷ codes "," ∷ decimal at.y ∷ codes "\" " ∷ style ∷
    codes "/>\n" ∷ [])

-- A byte in the text of an element: what XML gives a meaning is spelled by its entity, and what XML 1.0 has no
-- character for, or no single byte in UTF-8, is a question mark.
unfoldable pub marked_up : ℕ → List ℕ
marked_up b =
    if b == 38 then codes "&amp;"
    else if b == 60 then codes "&lt;"
    else if b == 62 then codes "&gt;"
    else if b == 34 then codes "&quot;"
    else if b == 39 then codes "&apos;"
    else if nat_le 32 b && nat_le b 126 then b ∷ []
    else codes "?"

-- a text: at most n of its bytes, and two dots if there are more
unfoldable pub shown_text : List ℕ → ℕ → List ℕ
shown_text words most =
    if nat_le (length words) most then flat_map marked_up words else flat_map marked_up (take most words) ++ codes ".."

-- words that begin at a point: at most n bytes of them
unfoldable pub words_text : Point → List ℕ → List ℕ → ℕ → List ℕ
words_text at style words most =
    codes "<text x=\"" ++ decimal at.x ++ codes "\" y=\"" ++ decimal at.y ++ codes "\" " ++ style ++ codes ">"
    ++ shown_text words most ++ codes "</text>\n"

-- the name of a lane at a point: a word and a number
unfoldable pub name_text : Point → List ℕ → ℕ → List ℕ
name_text at word number =
    concat (codes "<text x=\"" ∷ decimal at.x ∷ codes "\" y=\"" ∷ decimal at.y ∷
    codes "\" font-weight=\"bold\">" ∷ word ∷ codes " " ∷ decimal number ∷ codes "</text>\n" ∷ [])

-- a glyph; a label stands over a white edge
unfoldable pub glyph_text : Glyph → List ℕ
glyph_text (Line from to paint) = line_text from to (paint_text paint)
glyph_text (Circle at radius paint) = circle_text at radius (paint_text paint)
glyph_text (Diamond at paint) = diamond_text at (paint_text paint)
glyph_text (Words at paint words) = words_text at (paint_text paint) words 44
glyph_text (Label at paint words) =
    words_text at (paint_text paints.Edge) words 21 ++ words_text at (paint_text paint) words 21
glyph_text (Name at (lanes.Server i)) = name_text at (codes "server") i
glyph_text (Name at (lanes.Connection c)) = name_text at (codes "connection") c
