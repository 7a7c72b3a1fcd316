-- How the name of a text, or what explains a violation, stands in the lines of a batch: characters that would break a line, or that its format gives another
-- meaning, are escaped.
use Rattle.std.specs.Prelude.{ℕ, ◌==◌, ◌||◌, Bool, List, [], ◌++◌, Option, None, Some, chars, codes, encode_utf8, flat_map, nat_lt, if◌then◌else◌}
use Rattle.std.specs.Fmt.{decimal}
use Rattle.json_texts.specs.Characters.{json_character, printable}
use Rattle.request_options.specs.declared.batches.BatchFormat.{BatchFormat}
use Rattle.request_options.specs.declared.batches.BatchFormat.TheVariants.{Words, Json, Junit}

-- ---- in XML

-- a tab, a line end and a carriage return: XML reads these as spaces in an attribute, unless they are escaped
abbrev pub is_xml_space : ℕ → Bool
is_xml_space c = c == 9 || c == 10 || c == 13

-- other control characters, and U+FFFE and U+FFFF, which XML 1.0 has in no spelling
abbrev pub is_outside_xml : ℕ → Bool
is_outside_xml c = nat_lt c 32 || c == 65534 || c == 65535

-- what stands for those: U+FFFD, the replacement character
abbrev pub replacement : ℕ
replacement = 65533

-- a character that isn't among & (38), < (60), > (62) and " (34)
abbrev pub plain_xml_character : ℕ → List ℕ
plain_xml_character c =
    if is_xml_space c then codes "&#" ++ decimal c ++ codes ";"
    else if is_outside_xml c then encode_utf8 replacement
    else encode_utf8 c

abbrev pub xml_character : ℕ → List ℕ
xml_character c =
    if c == 38 then codes "&amp;"
    else if c == 60 then codes "&lt;"
    else if c == 62 then codes "&gt;"
    else if c == 34 then codes "&quot;"
    else plain_xml_character c

-- ---- in each format

abbrev pub text_character : BatchFormat → ℕ → List ℕ
text_character Words c = printable c
text_character Json c = json_character c
text_character Junit c = xml_character c

-- the text, character by character
abbrev pub escaped_text : BatchFormat → List ℕ → List ℕ
escaped_text format text = flat_map (text_character format) (chars text)

-- what stands in the lines of a text that has a name, or none
abbrev pub text_label : BatchFormat → Option (List ℕ) → List ℕ
text_label Words None = []
text_label Words (Some name) = escaped_text Words name ++ codes ": "
text_label Json None = []
text_label Json (Some name) = codes "\"file\":\"" ++ escaped_text Json name ++ codes "\","
text_label Junit None = codes "batch"
text_label Junit (Some name) = escaped_text Junit name
