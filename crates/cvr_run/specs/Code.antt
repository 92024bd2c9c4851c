-- The codes that the program reports, and what it prints of each.
-- Made by tools/codes from docs/FAULTS.md. Change that.
use Rattle.std.specs.Prelude.{ℕ, List, [], ◌∷◌, codes, ◌++◌}
use Rattle.cvr_run.specs.declared.code.Code.{Code}
use Rattle.cvr_run.specs.declared.code.Code.TheVariants.{E1, E2, E3, RuleLine, E4, E5, E6, J2, N1, K1, K2, X1, H1, H2, V1, L1, L2, L3, L4, MemoryLine, L5, WordsLine}

-- the word that names it
abbrev pub code_name : Code → List ℕ
code_name E1 = codes "E1"
code_name E2 = codes "E2"
code_name E3 = codes "E3"
code_name RuleLine = codes "rule"
code_name E4 = codes "E4"
code_name E5 = codes "E5"
code_name E6 = codes "E6"
code_name J2 = codes "J2"
code_name N1 = codes "N1"
code_name K1 = codes "K1"
code_name K2 = codes "K2"
code_name X1 = codes "X1"
code_name H1 = codes "H1"
code_name H2 = codes "H2"
code_name V1 = codes "V1"
code_name L1 = codes "L1"
code_name L2 = codes "L2"
code_name L3 = codes "L3"
code_name L4 = codes "L4"
code_name MemoryLine = codes "memory"
code_name L5 = codes "L5"
code_name WordsLine = codes "words"

-- all of them
abbrev pub all_codes : List Code
all_codes =
    E1 ∷ E2 ∷ E3 ∷ RuleLine ∷ E4 ∷ E5 ∷ E6 ∷ J2 ∷ N1 ∷ K1 ∷ K2 ∷ X1 ∷ H1 ∷ H2 ∷ V1 ∷ L1 ∷ L2 ∷ L3 ∷
    L4 ∷ MemoryLine ∷ L5 ∷ WordsLine ∷ []

-- ---- what is printed of each

abbrev pub e1_text : List ℕ
e1_text =
    codes "E1  The file has more than 67,108,864 bytes.\n"
    ++ codes "\n"
    ++ codes "Example:\n"
    ++ codes "  scan.json: E1\n"
    ++ codes "\n"
    ++ codes "What to do:\n"
    ++ codes "  Have the tool that wrote it write several files.\n"

abbrev pub e2_text : List ℕ
e2_text =
    codes "E2  The file is no JSON text in UTF-8, is nested more than 127 deep, or has a\n"
    ++ codes "    number too large for a float or half a pair of surrogates in a text.\n"
    ++ codes "\n"
    ++ codes "Example:\n"
    ++ codes "  scan.json: E2\n"
    ++ codes "\n"
    ++ codes "What to do:\n"
    ++ codes "  Check whether it was cut off or is of another kind, such as XML; remove a\n"
    ++ codes "  byte order mark. On a terminal a note says where it stops being JSON.\n"

abbrev pub e3_text : List ℕ
e3_text =
    codes "E3, rule  The file hasn't the form of a report: the value at the path breaks\n"
    ++ codes "          the rule.\n"
    ++ codes "\n"
    ++ codes "Example:\n"
    ++ codes "  scan.json: E3 /CVR/0/UniqueId 2\n"
    ++ codes "\n"
    ++ codes "What to do:\n"
    ++ codes "  See the rules below.\n"
    ++ codes "\n"
    ++ codes "Rules, by the number at the end of the line:\n"
    ++ codes "   1  The value isn't an object. Have it written as one.\n"
    ++ codes "   2  A member that the profile demands is absent. Have it written; see the\n"
    ++ codes "      class tables in docs/FORMAT.md.\n"
    ++ codes "   3  The value is of another JSON kind than the member has. Often a number\n"
    ++ codes "      stands for a text: have it written as the table says.\n"
    ++ codes "   4  The text isn't one of the enumeration's. Only version 1.0.0 and the\n"
    ++ codes "      listed texts are read.\n"
    ++ codes "   5  @type names a class that can't stand here. The text is CVR. and the\n"
    ++ codes "      class.\n"
    ++ codes "   6  A name is empty. Give it a name; an empty one would join unlike records.\n"
    ++ codes "   7  A count is below 0 or above 4,294,967,295. Check the tool that wrote it.\n"
    ++ codes "   8  An array has too few items. One Election; a snapshot and a position at\n"
    ++ codes "      least.\n"
    ++ codes "   9  An array has too many items. One Election a file, 64 positions, 65,536\n"
    ++ codes "      contest selections.\n"
    ++ codes "  10  FractionalVotes or TotalFractionalVotes is there. Fractional votes\n"
    ++ codes "      aren't counted; such a file can't be read.\n"
    ++ codes "  11  jiff reads no instant from the text, or it has a [: it has to be a\n"
    ++ codes "      date-time with an offset, with at most nine digits of fraction and of an\n"
    ++ codes "      instant that jiff has. Write it as 2024-11-05T20:00:00Z or\n"
    ++ codes "      2024-11-05T15:00:00-05:00.\n"
    ++ codes "  12  An earlier item of the array has the same @id. Nothing says which of the\n"
    ++ codes "      two is meant; mend the file.\n"
    ++ codes "  13  An earlier contest of the snapshot has the same ContestId. Put its\n"
    ++ codes "      selections under one CVRContest.\n"
    ++ codes "  14  A number, anywhere in the file, isn't whole. Write it whole, or as a\n"
    ++ codes "      text, as MarkMetricValue is.\n"

abbrev pub e4_text : List ℕ
e4_text =
    codes "E4  The text at the path has to be the @id of something in the same file, and\n"
    ++ codes "    names nothing.\n"
    ++ codes "\n"
    ++ codes "Example:\n"
    ++ codes "  scan.json: E4 /CVR/0/CVRSnapshot/0/CVRContest/0/ContestId\n"
    ++ codes "\n"
    ++ codes "What to do:\n"
    ++ codes "  Look the id up in the file; the table of references is in docs/FORMAT.md.\n"

abbrev pub e5_text : List ℕ
e5_text =
    codes "E5  The object at the path (the Election, a GpUnit or a Party) isn't the\n"
    ++ codes "    definition's: it has another text under the same @id, or the definition\n"
    ++ codes "    has no such object.\n"
    ++ codes "\n"
    ++ codes "Example:\n"
    ++ codes "  scan.json: E5 /GpUnit/0\n"
    ++ codes "\n"
    ++ codes "What to do:\n"
    ++ codes "  Was the file exported under another version of the election? Hand in the\n"
    ++ codes "  definition that it was made under, or have it exported again.\n"

abbrev pub e6_text : List ℕ
e6_text =
    codes "E6  Memory was refused while the file was read or its facts were taken in.\n"
    ++ codes "    Nothing is printed, since the text would lack the file (status 4).\n"
    ++ codes "\n"
    ++ codes "Example:\n"
    ++ codes "  scan.json: E6\n"
    ++ codes "\n"
    ++ codes "What to do:\n"
    ++ codes "  Free memory, or hand in fewer files.\n"

abbrev pub j2_text : List ℕ
j2_text =
    codes "J2  Memory was refused while one office took in what another holds. Nothing is\n"
    ++ codes "    printed, since the text would lack the step (status 4).\n"
    ++ codes "\n"
    ++ codes "Example:\n"
    ++ codes "  1>2: J2\n"
    ++ codes "\n"
    ++ codes "What to do:\n"
    ++ codes "  Free memory, or hand in fewer files.\n"

abbrev pub n1_text : List ℕ
n1_text =
    codes "N1  There is no office with a number of the step: offices count from 1 to\n"
    ++ codes "    OFFICES (status 1).\n"
    ++ codes "\n"
    ++ codes "Example:\n"
    ++ codes "  1>4: N1\n"
    ++ codes "\n"
    ++ codes "What to do:\n"
    ++ codes "  Name an office from 1 to OFFICES, or ask for more offices.\n"

abbrev pub k1_text : List ℕ
k1_text =
    codes "K1  The file could not be opened or read, or is a folder. A file of a step is\n"
    ++ codes "    reported by its path. The program stops there (status 3).\n"
    ++ codes "\n"
    ++ codes "Example:\n"
    ++ codes "  none.json: K1\n"
    ++ codes "\n"
    ++ codes "What to do:\n"
    ++ codes "  Check the path and its permissions. An empty path can't be opened: an empty\n"
    ++ codes "  line of a list of files is one. A list with line ends as on Windows has a\n"
    ++ codes "  carriage return at the end of each path: cat -A shows it.\n"

abbrev pub k2_text : List ℕ
k2_text =
    codes "K2  Memory was refused while the file was opened or read. The program stops\n"
    ++ codes "    there (status 4).\n"
    ++ codes "\n"
    ++ codes "Example:\n"
    ++ codes "  scan.json: K2\n"
    ++ codes "\n"
    ++ codes "What to do:\n"
    ++ codes "  Free memory, or hand in fewer files.\n"

abbrev pub x1_text : List ℕ
x1_text =
    codes "X1  Standard output failed or took nothing. A prefix of the text may have been\n"
    ++ codes "    written (status 3).\n"
    ++ codes "\n"
    ++ codes "Example:\n"
    ++ codes "  out: X1\n"
    ++ codes "\n"
    ++ codes "What to do:\n"
    ++ codes "  Check where the output goes: a full disk, a closed pipe? Then run again.\n"

abbrev pub h1_text : List ℕ
h1_text =
    codes "H1  DATE of merge is no date-time with an offset, or names a zone in brackets.\n"
    ++ codes "    Nothing is printed (status 1).\n"
    ++ codes "\n"
    ++ codes "Example:\n"
    ++ codes "  merge: H1\n"
    ++ codes "\n"
    ++ codes "What to do:\n"
    ++ codes "  Write it as 2024-11-06T08:00:00Z or 2024-11-06T03:00:00-05:00.\n"

abbrev pub h2_text : List ℕ
h2_text =
    codes "H2  The definition has no ReportingDevice with DEVICE as its @id. Nothing is\n"
    ++ codes "    printed (status 1).\n"
    ++ codes "\n"
    ++ codes "Example:\n"
    ++ codes "  merge: H2\n"
    ++ codes "\n"
    ++ codes "What to do:\n"
    ++ codes "  Name one of the definition's devices; one that only files have doesn't do.\n"

abbrev pub v1_text : List ℕ
v1_text =
    codes "V1  There are fewer volumes than VOLUME; how many stands after it, as\n"
    ++ codes "    conflicts ends with. Nothing is printed (status 1).\n"
    ++ codes "\n"
    ++ codes "Example:\n"
    ++ codes "  merge: V1 1\n"
    ++ codes "\n"
    ++ codes "What to do:\n"
    ++ codes "  Ask for a volume from 1 to that number.\n"

abbrev pub l1_text : List ℕ
l1_text =
    codes "L1  No command takes the words, or none stands, or a number is out of range. A\n"
    ++ codes "    sentence says what is wrong; a hint follows where a like word would do,\n"
    ++ codes "    and the usage. No file was opened (status 2).\n"
    ++ codes "\n"
    ++ codes "Example:\n"
    ++ codes "  error: unrecognized subcommand 'taly'\n"
    ++ codes "\n"
    ++ codes "What to do:\n"
    ++ codes "  cvr --help lists the commands, cvr help tally the words of one. A path that\n"
    ++ codes "  begins with - stands after --.\n"

abbrev pub l2_text : List ℕ
l2_text =
    codes "L2  The words ask for help: it is printed on standard output (status 0).\n"
    ++ codes "\n"
    ++ codes "Example:\n"
    ++ codes "  Usage: cvr <COMMAND>\n"
    ++ codes "\n"
    ++ codes "What to do:\n"
    ++ codes "  Nothing: this is no fault.\n"

abbrev pub l3_text : List ℕ
l3_text =
    codes "L3  The step has no form. The first such step is reported, and no file was\n"
    ++ codes "    opened (status 2).\n"
    ++ codes "\n"
    ++ codes "Example:\n"
    ++ codes "  2:scan.json: L3\n"
    ++ codes "\n"
    ++ codes "What to do:\n"
    ++ codes "  K=FILE or 'K>L', in quotes since > is a sign of the shell; K and L are\n"
    ++ codes "  decimal numbers of one to nine digits, without a sign or a space.\n"

abbrev pub l4_text : List ℕ
l4_text =
    codes "L4, memory  Memory was refused for the words (L4), for the list of the files'\n"
    ++ codes "            contents, for the offices, for the list of their imports or steps,\n"
    ++ codes "            or for the text: nothing is printed, or of merge a prefix of the\n"
    ++ codes "            volume. Or the path of a line E3, E4 or E5 could not be spelled:\n"
    ++ codes "            this line stands in its place, and the rest is done (status 4).\n"
    ++ codes "\n"
    ++ codes "Example:\n"
    ++ codes "  memory\n"
    ++ codes "\n"
    ++ codes "What to do:\n"
    ++ codes "  Free memory, or hand in fewer files.\n"

abbrev pub l5_text : List ℕ
l5_text =
    codes "L5  The list of files is not UTF-8, or has more than 67,108,864 bytes. Nothing\n"
    ++ codes "    but it was opened (status 2).\n"
    ++ codes "\n"
    ++ codes "Example:\n"
    ++ codes "  list.txt: L5\n"
    ++ codes "\n"
    ++ codes "What to do:\n"
    ++ codes "  Rename the file whose path is not UTF-8; split a longer list, and add up the\n"
    ++ codes "  tallies of parts that have no record in common.\n"

abbrev pub words_text : List ℕ
words_text =
    codes "words  A word is not UTF-8. No file was opened (status 2).\n"
    ++ codes "\n"
    ++ codes "Example:\n"
    ++ codes "  words\n"
    ++ codes "\n"
    ++ codes "What to do:\n"
    ++ codes "  Rename the file, or go to its folder.\n"

abbrev pub code_text : Code → List ℕ
code_text E1 = e1_text
code_text E2 = e2_text
code_text E3 = e3_text
code_text RuleLine = e3_text
code_text E4 = e4_text
code_text E5 = e5_text
code_text E6 = e6_text
code_text J2 = j2_text
code_text N1 = n1_text
code_text K1 = k1_text
code_text K2 = k2_text
code_text X1 = x1_text
code_text H1 = h1_text
code_text H2 = h2_text
code_text V1 = v1_text
code_text L1 = l1_text
code_text L2 = l2_text
code_text L3 = l3_text
code_text L4 = l4_text
code_text MemoryLine = l4_text
code_text L5 = l5_text
code_text WordsLine = words_text

-- what is reported of words that name none, in the form in which clap refuses a value
abbrev pub no_code_text : List ℕ
no_code_text =
    codes "error: invalid value for '<CODE>'\n"
    ++ codes "  [possible values: E1, E2, E3, rule, E4, E5, E6, J2, N1, K1, K2, X1, H1, H2, V1, L1, L2, L3, L4, memory, L5, words]\n"
    ++ codes "\n"
    ++ codes "For more information, try '--help'.\n"

-- what is printed of `explain` itself
abbrev pub explain_text : List ℕ
explain_text =
    codes "Print what a code on standard error means, and what to do\n"
    ++ codes "\n"
    ++ codes "Usage: cvr explain <CODE>...\n"
    ++ codes "\n"
    ++ codes "  <CODE>...  E1, E2, E3, rule, E4, E5, E6, J2, N1, K1, K2, X1, H1, H2, V1, L1,\n"
    ++ codes "             L2, L3, L4, memory, L5, words; in capitals or not; or a line that\n"
    ++ codes "             has one\n"
    ++ codes "\n"
    ++ codes "Example:\n"
    ++ codes "  cvr explain 'scan.json: E3 /CVR/0/UniqueId 2'\n"
